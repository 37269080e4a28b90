-- From the law of a reader to what it answers at a list.
use Rattle.std.proofs.Common.{◌≡◌, ℕ, ◌≤◌, Bool, false, List, [], ◌∷◌, length, refl, sym, ◌∙◌, subst}
use Rattle.std.proofs.lemmas.List.{append_cancel_right, append-nil}
use Rattle.grammar.specs.Language.{Lang}
use Rattle.grammar.specs.Reader.{Out, Got, Wrong, Reader, opens, all_read}
use Rattle.grammar.specs.FirstWrong.{ReadsAll}
use Rattle.grammar.proofs.Good.{Clear, Outcome, Good}
use Rattle.grammar.proofs.Reading.{reads_all}
use Rattle.ir_grammar_insts.specs.OpenRules.{ReadsOpen}

pub not_opened : {S : Type 0} (s : S → Bool) (xs : List S) → opens s xs ≡ false → Clear s xs
not_opened s [] o = tt
not_opened s (x ∷ xs) o = o

open_at : {S V : Type 0} (L : Lang S V) (s : S → Bool) (ts : List S) (o : Out S V) → Outcome L s ts o → ReadsAll L ts (all_read o) → ReadsOpen L s ts o
open_at L s ts (Got v []) g whole = (
  record {
    before = g.front;
    cut = g.cut;
    begins = ([], v, subst (λ z. L z v) (sym (append-nil g.front)) g.spells);
    wrong = λ t more e word. cc;
  },
  g.spells,
  λ q more w reading. g.only q [] more w refl reading.1 (sym g.cut ∙ reading.0) (not_opened s more reading.2),
)
open_at L s ts (Got v (t ∷ rest)) g whole =
    let same : g.front ≡ whole.0.before = append_cancel_right g.front whole.0.before (t ∷ rest) (sym g.cut ∙ whole.0.cut) in (
      whole.0,
      subst (λ z. L z v) same g.spells,
      λ q more w reading.
          let inner = g.only q (t ∷ rest) more w refl reading.1 (sym g.cut ∙ reading.0) (not_opened s more reading.2) in
          (inner.0 ∙ same, inner.1),
    )
open_at L s ts (Wrong rest) g whole = (
  whole.0,
  λ q more w reading. g.dead q rest more w refl reading.1 (sym g.cut ∙ reading.0) (not_opened s more reading.2),
)

-- an open rule's reader at a list
pub reads_open : {S V : Type 0} {n : ℕ} {L : Lang S V} {r : Reader S V} {s : S → Bool} → Good n L r s → (ts : List S) → length ts ≤ n → ReadsOpen L s ts (r ts)
reads_open {L = L} {r = r} {s = s} g ts short = open_at L s ts (r ts) (g.outcome ts short) (reads_all g ts short)
