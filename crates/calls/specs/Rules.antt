-- The published number of each rule.
use Rattle.std.specs.Prelude.{ℕ}
use Rattle.calls.specs.declared.rule.Rule.{Rule}
use Rattle.calls.specs.declared.rule.Rule.TheVariants.{Ranges, Count, Exclusion, Upgrade, CellU, CellX}

abbrev pub rule_number : Rule → ℕ
rule_number Ranges = 1
rule_number Count = 2
rule_number Exclusion = 3
rule_number Upgrade = 4
rule_number CellU = 5
rule_number CellX = 6
