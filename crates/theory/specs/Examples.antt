-- The definitions computed at small sizes: two state bits, and the output bits s_0, s_1, s_0 + s_1.
use Rattle.std.specs.Prelude.{◌≡◌, refl, Bool, true, false, not, ℕ, zero, suc}
use Rattle.theory.specs.Def.{◌⊕◌, xorsum, Bits, bit, count, every, agree, hits, evenly}

bits : ℕ → Bits 2 → Bool
bits zero s = bit s 0
bits (suc zero) s = bit s 1
bits (suc (suc i)) s = bit s 0 ⊕ bit s 1

-- of the four states, the zero state among them, two have s_0 = 0 and one has s_0 = s_1 = 0
zeros_counted : (hits bits 1 (λ _. false) ≡ 2) × (hits bits 2 (λ _. false) ≡ 1)
unfolding hits count agree bits bit
zeros_counted = (refl, refl)

-- the first two bits fill their four cells evenly, the three bits do not fill their eight
filled : (evenly bits 2 ≡ true) × (evenly bits 3 ≡ false)
unfolding evenly every hits count agree bits bit
filled = (refl, refl)

-- from every state the three sum to zero: no other third bit does that
summed : every (λ s. not (xorsum 3 (λ i. bits i s))) ≡ true
unfolding every xorsum bits bit
summed = refl
