-- What the struct stands for: a list of ports.
use Rattle.std.specs.Prelude.{ℕ, List, take, Some, None, Option}
use Rattle.std.specs.Borrow.{Bor}
use Rattle.lists.specs.declared.PortList.{PortList}

abbrev pub ports_of : PortList → List ℕ
ports_of l = take l.len l.ports

abbrev pub ports_in : Option PortList → Option (List ℕ)
ports_in (Some l) = Some (ports_of l)
ports_in None = None

abbrev pub ports_at : Option (Bor PortList) → Option (List ℕ)
ports_at (Some l) = Some (ports_of l.now)
ports_at None = None
