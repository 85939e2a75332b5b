-- The numbers and places of what can be wrong with a count or a wire.
use Rattle.std.specs.Prelude.{ℕ}
use Rattle.plan.specs.declared.fault.PlanFault.{PlanFault}
use Rattle.plan.specs.declared.fault.PlanFault.TheVariants.{OutOfRange, OneBoard, PortTaken}
use Rattle.plan.specs.declared.fault.Refusal.{Refusal}

-- as the layer reports it that found it
abbrev pub plan_refusal : ℕ → PlanFault → Refusal
plan_refusal layer (OutOfRange place) = record { layer = layer; number = 8; place = place }
plan_refusal layer (OneBoard place) = record { layer = layer; number = 10; place = place }
plan_refusal layer (PortTaken place) = record { layer = layer; number = 11; place = place }
