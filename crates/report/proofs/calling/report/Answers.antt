-- What is not refused has accepted fields and room: the report of the generator that they are prepared of is then the call's.
use Rattle.std.proofs.Common.{sym, ◌∙◌}
use Rattle.report.proofs.Laws.{report_accepted}
use Rattle.report.proofs.calling.report.Goals as goal

pub prepare-requires : goal.prepare-requires
prepare-requires c = (report_accepted _ _ (sym c.in-Ok.ensures)).0

pub report_of-requires : goal.report_of-requires
report_of-requires c = (report_accepted _ _ (sym c.in-Ok.ensures)).1

pub returns-in-Ok : goal.returns-in-Ok
returns-in-Ok c =
    let e = c.in-Ok.ensures in
    let x = c.report_of.ensures in
    record {
      number = x.number ∙ e;
      accepted = λ _. x.report c.args.g (report_accepted _ _ (sym e)).0 c.prepare.ensures;
      cleared = λ _. x.cleared;
      refused = λ n. absurd (n (sym e));
      kept = λ n. absurd (n (sym e));
    }
