-- Lists of ports: at most 127, each 0 to 7.
use Rattle.std.specs.Prelude.{ℕ, Bool, true, cond, ◌&&◌, List, [], ◌∷◌, ◌++◌, length, Ok, Err, Result, nat_eq, nat_lt}
use Rattle.std.specs.List.{common_prefix_len}
use Rattle.std.specs.Str.{bytes_eq}
use Rattle.lists.specs.declared.fault.ListFault.{ListFault}
use Rattle.lists.specs.declared.fault.ListFault.TheVariants.{Full, NoPort}

-- whether each is a port, 0 to 7
unfoldable pub all_ports : List ℕ → Bool
all_ports [] = true
all_ports (port ∷ ports) = nat_lt port 8 && all_ports ports

-- whether a list can take one port more
abbrev pub takes : List ℕ → ℕ → Bool
takes list port = nat_lt (length list) 127 && nat_lt port 8

-- one port more at the end, or why not, and nothing changed
abbrev pub pushed : ℕ → List ℕ → Result (Unit {0}) ListFault × List ℕ
pushed port list =
    cond (nat_lt (length list) 127) (cond (nat_lt port 8) (Ok tt, list ++ port ∷ []) (Err NoPort, list)) (Err Full, list)

-- whether two lists are the same
abbrev pub same : List ℕ → List ℕ → Bool
same a b = bytes_eq a b

-- how many leading ports two lists share
abbrev pub shared : List ℕ → List ℕ → ℕ
shared a b = common_prefix_len nat_eq a b
