-- Where no label begins.
use Rattle.std.proofs.Common.{◌≡◌, ℕ, zero, suc, ◌+◌, ◌-◌, ◌<◌, ◌==◌, false, List, [], ◌∷◌, ◌++◌, length, drop, None, Some, refl, sym, ap, ◌∙◌, inl, arith}
use Rattle.std.specs.List.{prefix_len}
use Rattle.std.proofs.lemmas.List.{drop_at, drop-drop}
use Rattle.std.proofs.Math.Seq.{drop-append_seam}
use Rattle.ir_lex.specs.Bytes.{is_name_byte}
use Rattle.ir_lex.specs.Spelling.{Passes, Stops}
use Rattle.ir_lex.specs.Lengths.{begins_by, name_len, label_len, NoLabels}
use Rattle.ir_lex.proofs.Pieces.{run_of}
use Rattle.ir_lex.proofs.Strings.{name_is}

none_at : (front rest : List ℕ) (k : ℕ) → Passes is_name_byte front → Stops is_name_byte rest → begins_by (λ b. b == 58) rest ≡ false → k < length front → label_len (drop k (front ++ rest)) ≡ None
none_at [] rest k p s c h = absurd (omega arith)
none_at (x ∷ f) rest zero p s c h =
    let named : name_len ((x ∷ f) ++ rest) ≡ Some (length (x ∷ f)) = name_is (x ∷ f) rest (inl p) s in
    let behind : drop (length (x ∷ f)) ((x ∷ f) ++ rest) ≡ rest = drop-append_seam (x ∷ f) rest in
    rw (named, behind, c) refl
none_at (x ∷ f) rest (suc k) p s c h = none_at f rest k p.1 s c (omega arith)

-- in a run of name bytes that no colon follows no label begins
pub no_labels : (text : List ℕ) → begins_by (λ b. b == 58) (drop (prefix_len is_name_byte text) text) ≡ false → NoLabels (prefix_len is_name_byte text) text
no_labels text c k h =
    let run = run_of is_name_byte text in
    let behind : drop (prefix_len is_name_byte text) text ≡ run.rest = ap (drop (prefix_len is_name_byte text)) run.cut ∙ drop_at run.front run.rest _ run.long in
    ap (λ t. label_len (drop k t)) run.cut ∙ none_at run.front run.rest k run.passes run.stops (ap (begins_by (λ b. b == 58)) (sym behind) ∙ c) (omega (arith, run.long))

-- what is known of a text is known of what is left of it
pub NoLabels-drop : (n m : ℕ) (text : List ℕ) → NoLabels n text → NoLabels (n - m) (drop m text)
NoLabels-drop n m text known k h = ap label_len (drop-drop k m text) ∙ known (m + k) (omega arith)
