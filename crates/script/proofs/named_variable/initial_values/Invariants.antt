use Rattle.std.proofs.Common.{◌≡◌, ◌++◌, length, map, drop}
use Rattle.script.specs.Entries.{VariableEntry, variable_view}
use Rattle.script.proofs.named_variable.initial_values.Given as goal

abbrev pub invariant-loop-variable : goal.invariant-loop-variable
invariant-loop-variable l = record {
  values : map (λ (x : VariableEntry). x.initial) (map variable_view l.variables)
      ≡ l.values.items ++ map (λ (x : VariableEntry). x.initial) (map variable_view (drop l.variable-index l.variables));
  count : length l.values.items ≡ l.variable-index;
}
