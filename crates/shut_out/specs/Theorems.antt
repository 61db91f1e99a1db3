-- The wrong builds that document 01 names are shut out. What each line says stands in `Builds.antt`.
use Rattle.shut_out.specs.Builds.{ShutOut}
use Rattle.shut_out.specs.Refusing as R
use Rattle.shut_out.specs.Leaving as L
use Rattle.shut_out.specs.Answering as A
use Rattle.shut_out.specs.Reporting as T

pub shut_out : ShutOut
shut_out =
    record {
      refuses_everything = R.refuses_everything;
      always_yes = A.always_yes;
      always_no = A.always_no;
      buffers_unwritten = L.buffers_unwritten;
      first_output_repeated = A.first_output_repeated;
      best_resolutions = T.best_resolutions;
      best_dimensions = T.best_dimensions;
      no_resolutions = T.no_resolutions;
      no_dimensions = T.no_dimensions;
      another_resolution_sum = T.another_resolution_sum;
      another_dimension_sum = T.another_dimension_sum;
      resolution_first_apart = A.resolution_first_apart;
      outputs_after_a_move = A.outputs_after_a_move;
      verdicts_after_a_move = A.verdicts_after_a_move;
      dead_bits_counted = T.dead_bits_counted;
      zero_state_left_out = A.zero_state_left_out;
      stopped_at_a_gap = T.stopped_at_a_gap;
    }
