-- Worked spellings, on the definitions.
use Rattle.std.specs.Prelude.{◌≡◌, false, [], ◌∷◌, replicate, Some, None}
use Rattle.rows.specs.Rows.{both_same}
use Rattle.run_book.specs.Spelling.{run_list, runs}

pub record Worked : Type 0 where
  -- one run of four, two runs of two and four runs of one are one list
  pub one_run : run_list (1 ∷ 4 ∷ []) ≡ Some (1 ∷ 1 ∷ 1 ∷ 1 ∷ [])
  pub two_runs : run_list (1 ∷ 2 ∷ 1 ∷ 2 ∷ []) ≡ Some (1 ∷ 1 ∷ 1 ∷ 1 ∷ [])
  pub four_runs : run_list (1 ∷ 1 ∷ 1 ∷ 1 ∷ 1 ∷ 1 ∷ 1 ∷ 1 ∷ []) ≡ Some (1 ∷ 1 ∷ 1 ∷ 1 ∷ [])
  -- four times 1 is not three times 1
  pub three : both_same (run_list (1 ∷ 3 ∷ [])) (run_list (1 ∷ 4 ∷ [])) ≡ false
  -- a byte left over, port 8, count 0 and 128 ports spell nothing; 127 ports are a list
  pub left_over : run_list (1 ∷ 4 ∷ 1 ∷ []) ≡ None
  pub port_8 : run_list (8 ∷ 1 ∷ []) ≡ None
  pub count_0 : run_list (1 ∷ 0 ∷ []) ≡ None
  pub too_long : run_list (1 ∷ 100 ∷ 1 ∷ 28 ∷ []) ≡ None
  pub longest : run_list (1 ∷ 100 ∷ 1 ∷ 27 ∷ []) ≡ Some (replicate 127 1)
  -- the shortest spelling
  pub shortest : runs (1 ∷ 1 ∷ 0 ∷ 1 ∷ 1 ∷ 1 ∷ []) ≡ 1 ∷ 2 ∷ 0 ∷ 1 ∷ 1 ∷ 3 ∷ []
