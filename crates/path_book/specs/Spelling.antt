-- The path spelling: one byte a port.
use Rattle.std.specs.Prelude.{ℕ, cond, ◌&&◌, List, length, Some, None, Option, nat_le}
use Rattle.lists.specs.Lists.{all_ports}

-- the list that bytes spell: the bytes themselves, if they are at most 127 and each is a port
unfoldable pub path_list : List ℕ → Option (List ℕ)
path_list bytes = cond (nat_le (length bytes) 127 && all_ports bytes) (Some bytes) None
