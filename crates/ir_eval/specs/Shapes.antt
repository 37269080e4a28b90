-- Which activation and which state of the definitions is kept.
use Rattle.std.specs.Prelude.{ℕ, List, ◌∷◌, map, reverse, drop}
use Rattle.ir_model.specs.Values.{Value, MemoryBlock}
use Rattle.ir_model.specs.States as model
use Rattle.mem_cells.specs.Shapes.{value_shape}
use Rattle.ir_eval.specs.declared.activation.Activation.{Activation}
use Rattle.ir_eval.specs.declared.machine.Machine.{Machine}

-- an activation; the youngest of its blocks of memory is the last
abbrev pub activation_shape : Activation → model.Activation
activation_shape a = record {
  function = a.function;
  block = a.block;
  position = a.position;
  values = map value_shape a.values.items;
  owned = reverse a.owned.items;
}

-- its values
abbrev pub values_of : Activation → List Value
values_of a = map value_shape a.values.items

-- the activation with other values
abbrev pub with_values : Activation → List Value → model.Activation
with_values a vs = record (activation_shape a) { values = vs }

-- the activations that wait, the innermost first
abbrev pub below : Machine → List model.Activation
below m = reverse (map activation_shape m.waiting.items)

-- the state, with a memory and on an input
abbrev pub state_of : List ℕ → List MemoryBlock → Machine → model.State
state_of input memory m = record {
  stack = activation_shape m.current ∷ below m;
  memory = memory;
  input = drop m.place input;
  out = m.output.items;
}
