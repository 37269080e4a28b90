-- What a loop over a list has made of its first elements, and what is known of the parts of a function.
use Rattle.std.proofs.Common.{◌≡◌, ℕ, ◌+◌, ◌<◌, true, List, [], ◌∷◌, ◌++◌, Option, Some, None, length, map, filter_map, take, get_or, slice_get, refl, sym, ◌∙◌, ap, subst}
use Rattle.std.specs.List.{cons_option, list_all}
use Rattle.std.specs.Option.{option_to_list}
use Rattle.std.proofs.lemmas.List.{map_more, map_push}
use Rattle.std.proofs.lemmas.List.Elements.{filter_map-append}
use Rattle.std.proofs.lemmas.Option.{slice_get_within, get_or_from_slice_get}
use Rattle.ir_tree.specs.Known.{inst_known, body_known, block_known, function_known}
use Rattle.ir_tree.specs.declared.module.Inst.{Inst}
use Rattle.ir_tree.specs.declared.module.Block.{Block}
use Rattle.ir_tree.specs.declared.module.Function.{Function}
use Rattle.ir_tree.proofs.Grows.{and_right}
use Rattle.ir_names.proofs.AllKnown.{one_of_all}

of_option : {Y : Type 0} (o : Option Y) → cons_option o [] ≡ option_to_list o
of_option None = refl
of_option (Some y) = refl

-- one element more, where some give nothing
pub more_mapped : {X : Type 0} (g : List ℕ → Option ℕ) (h : X → List ℕ) (xs : List X) (i : ℕ) (d : X) (to new : List ℕ) → i < length xs
    → to ≡ filter_map g (map h (take i xs)) → new ≡ to ++ option_to_list (g (h (get_or xs i d))) → new ≡ filter_map g (map h (take (i + 1) xs))
more_mapped g h xs i d to new within before pushed =
    pushed
    ∙ ap (λ (z : List ℕ). z ++ option_to_list (g (h (get_or xs i d)))) before
    ∙ ap (λ (z : List ℕ). filter_map g (map h (take i xs)) ++ z) (sym (of_option (g (h (get_or xs i d)))))
    ∙ sym (filter_map-append g (map h (take i xs)) (h (get_or xs i d) ∷ []))
    ∙ ap (λ (z : List (List ℕ)). filter_map g z) (sym (map_more h xs i d within))

-- one row more
pub more_rows : {V X Y : Type 0} (items : V → List ℕ) (g : Y → List ℕ) (h : X → Y) (xs : List X) (i : ℕ) (d : X) (rows next : List V) (row : V)
    → i < length xs → map items rows ≡ map g (map h (take i xs)) → next ≡ rows ++ row ∷ [] → items row ≡ g (h (get_or xs i d))
    → map items next ≡ map g (map h (take (i + 1) xs))
more_rows {V} {X} {Y} items g h xs i d rows next row within before pushed is =
    ap (λ (z : List V). map items z) pushed
    ∙ map_push items rows row
    ∙ ap (λ (z : List (List ℕ)). z ++ items row ∷ []) before
    ∙ ap (λ (z : List ℕ). map g (map h (take i xs)) ++ z ∷ []) is
    ∙ sym (map_push g (map h (take i xs)) (h (get_or xs i d)))
    ∙ ap (λ (z : List Y). map g z) (sym (map_more h xs i d within))

-- the names of a block of a function whose names are known
pub block_at_known : (count : ℕ) (f : Function) (i : ℕ) (b : Block) → i < length f.blocks.items → b ≡ get_or f.blocks.items i b
    → function_known count f ≡ true → block_known count b ≡ true
block_at_known count f i b within read known =
    ap (block_known count) read ∙ one_of_all (block_known count) f.blocks.items i b within (and_right _ _ known)

-- the names of an instruction of a block whose names are known
pub inst_at_known : (count : ℕ) (b : Block) (insts : List Inst) (k : ℕ) (x : Inst) → insts ≡ b.insts.items → Some x ≡ slice_get insts k
    → block_known count b ≡ true → body_known count x.body ≡ true
inst_at_known count b insts k x same at known =
    let there = sym at in
    let all : list_all (inst_known count) insts ≡ true = subst (λ (z : List Inst). list_all (inst_known count) z ≡ true) (sym same) (and_right _ _ known) in
    let one : inst_known count x ≡ true =
    ap (inst_known count) (sym (get_or_from_slice_get insts k x x there)) ∙ one_of_all (inst_known count) insts k x (slice_get_within insts k x there) all in
    and_right _ _ one
