use Rattle.std.proofs.Common.{refl}
use Rattle.run_book.specs.Spelling.{expanded, in_front, run_list, runs}
use Rattle.run_book.proofs.worked.Goals as goal

pub returns : goal.returns
unfolding run_list expanded runs in_front
returns c = record {
  one_run = refl;
  two_runs = refl;
  four_runs = refl;
  three = refl;
  left_over = refl;
  port_8 = refl;
  count_0 = refl;
  too_long = refl;
  longest = refl;
  shortest = refl;
}
