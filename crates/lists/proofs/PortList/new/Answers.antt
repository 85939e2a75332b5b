use Rattle.lists.proofs.PortLists.{fit_none}
use Rattle.lists.proofs.PortList.new.Goals as goal

pub invariant_of-result-clause-fit : goal.invariant_of-result-clause-fit
invariant_of-result-clause-fit c = fit_none 127
