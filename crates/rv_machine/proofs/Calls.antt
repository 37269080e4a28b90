-- The calls that read and write.
use Rattle.std.proofs.Common.{◌≡◌, ℕ, ◌<◌, List, ◌++◌, length, min, take, drop, Some, ap, sym, ◌∙◌, subst, length-append, arith}
use Rattle.std.proofs.lemmas.List.{take_min}
use Rattle.rv_machine.specs.declared.processor.Tick.{Tick}
use Rattle.rv_machine.specs.declared.processor.Tick.TheVariants.{Went, Ended, Trapped}
use Rattle.rv_machine.specs.Ticks.{IsTick, PutsOut}
use Rattle.rv_model.specs.Memory.{bytes_for, kept_in}
use Rattle.rv_model.specs.State.{LoadedSegment, MachineState, register}
use Rattle.rv_model.specs.Step.{StepResult, Continues, Ends, Traps, put, reads_input, received, sent, writes_output}
use Rattle.rv_model.proofs.RegisterLemmas.{out-set_register}

pub puts_out-written : (s : MachineState) (address count : ℕ) (bytes : List ℕ) → address ≡ register s 11 → count ≡ register s 12
    → bytes_for address count s.segments ≡ Some bytes → 0 < length bytes → PutsOut (writes_output s) s
puts_out-written s address count bytes at many there some =
    let sending : MachineState = record s { out = s.out ++ bytes } in
    let found : bytes_for (register s 11) (register s 12) s.segments ≡ Some bytes =
    ap (λ k. bytes_for k (register s 12) s.segments) (sym at) ∙ ap (λ n. bytes_for address n s.segments) (sym many) ∙ there in
    let is : writes_output s ≡ put 10 (length bytes) sending = ap (λ o. sent o s) found in
    let P : StepResult → Type 0 = λ r. PutsOut r s in
    let longer : length s.out < length (s.out ++ bytes) = omega (arith, length-append s.out bytes) in
    subst P (sym is) (rw (out-set_register sending 10 (length bytes)) longer)

-- the input came to its place
pub reads_input-kept : (s : MachineState) (address asked count : ℕ) (segments : List LoadedSegment) → address ≡ register s 11 → asked ≡ register s 12
    → count ≡ min asked (length s.input) → kept_in address (take count s.input) s.segments ≡ Some segments
    → reads_input s ≡ put 10 count (record s { segments = segments; input = drop count s.input })
reads_input-kept s address asked count segments at many least there =
    let front : take count s.input ≡ take (register s 12) s.input =
    ap (λ n. take n s.input) least ∙ take_min asked s.input ∙ ap (λ n. take n s.input) many in
    let found : kept_in (register s 11) (take (register s 12) s.input) s.segments ≡ Some segments =
    ap (λ k. kept_in k (take (register s 12) s.input) s.segments) (sym at) ∙ ap (λ xs. kept_in address xs s.segments) (sym front) ∙ there in
    let number : min (register s 12) (length s.input) ≡ count = ap (λ n. min n (length s.input)) (sym many) ∙ sym least in
    ap (λ o. received o (min (register s 12) (length s.input)) s) found
    ∙ ap (λ n. put 10 n (record s { segments = segments; input = drop n s.input })) number

-- an instruction that goes on leaves nothing to say of the state before it
pub tick-continues : (tick : Tick) (next old other new : MachineState) → IsTick tick (Continues next) old new → IsTick tick (Continues next) other new
tick-continues Went next old other new h = h
tick-continues (Ended status) next old other new h = absurd (let e : Continues next ≡ Ends status = h.0 in (cc))
tick-continues (Trapped pc cause) next old other new h = absurd (let e : Continues next ≡ Traps pc cause = h.0 in (cc))
