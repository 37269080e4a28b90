-- Answers of operations, from the number that they compute.
use Rattle.std.proofs.Common.{◌≡◌, ℕ, Bool, false, if◌then◌else◌, ap, sym, ◌∙◌}
use Rattle.ir_tree.specs.declared.module.Bin.{Bin}
use Rattle.ir_tree.specs.declared.module.Flags.{Flags}
use Rattle.ir_model.specs.Values.{Integer, Poison, Gives}
use Rattle.ir_model.specs.Integers.{is_lost, result_of, computed}

-- a result that isn't lost
pub kept : (operation : Bin) (flags : Flags) (width a b r : ℕ) → is_lost operation flags width a b ≡ false → r ≡ result_of operation width a b
    → Gives (Integer width r) ≡ Gives (computed operation flags width a b)
kept operation flags width a b r found is =
    ap (λ (n : ℕ). Gives (Integer width n)) is
    ∙ ap (λ (lost : Bool). Gives (if lost then Poison else Integer width (result_of operation width a b))) (sym found)
