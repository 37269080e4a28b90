-- The look-up by opcode finds the first row that the fields match.
use Rattle.std.proofs.Common.{◌≡◌, ℕ, ◌==◌, List, [], ◌∷◌, Bool, true, false, Option, Some, None, refl, sym, ◌∙◌, subst, cond, ◌&&◌, arith}
use Rattle.std.specs.Prelude.{find}
use Rattle.std.proofs.lemmas.Bool.Decides.{nat_tests}
use Rattle.rv_inst.specs.declared.table.Kind.{Kind}
use Rattle.rv_inst.specs.declared.table.Kind.TheVariants.{OpJalr, OpEcall}
use Rattle.rv_inst.specs.declared.table.Fields.{Fields}
use Rattle.rv_inst.specs.Table.{row, kinds}
use Rattle.rv_inst.specs.Format.{tests, operands_in, IsCut}
use Rattle.rv_inst.specs.Word.{kind_at}
use Rattle.rv_inst.specs.Opcodes.{chosen, branches, loads, stores, left_shifts, right_shifts, immediates, plain, negated, multiplying, left_word_shifts, right_word_shifts, word_immediates, plain_words, negated_words, multiplying_words, by_sign, by_zero, by_bit25, by_opcode, system, kind_by_opcode}
use Rattle.rv_inst.proofs.EachKind.{kind_at-fields_of, kind_by_opcode-fields_of}
use Rattle.rv_inst.proofs.EachFormat.{fields_of-operands_in}

-- the fields match the row of the kind, if there is one
abbrev Matches : Fields → Option Kind → Type 0
Matches f None = Unit {0}
Matches f (Some k) = tests ((row k).format) (row k) f ≡ true

-- each entry matches where its number is the one sought
abbrev EachMatches : Fields → ℕ → List (ℕ × Option Kind) → Type 0
EachMatches f n [] = Unit {0}
EachMatches f n (entry ∷ rest) = (n ≡ entry.0 → Matches f entry.1) × EachMatches f n rest

chosen_matches : (f : Fields) (n : ℕ) (entries : List (ℕ × Option Kind)) → EachMatches f n entries → Matches f (chosen n entries)
chosen_matches f n [] each = tt
chosen_matches f n (entry ∷ rest) each = by_test (n == entry.0) refl (chosen_matches f n rest each.1)
  where
    by_test : (b : Bool) → (n == entry.0) ≡ b → Matches f (chosen n rest) → Matches f (cond b (entry.1) (chosen n rest))
    by_test true e below = each.0 (grind (arith, nat_tests))
    by_test false e below = below

system_matches : (f : Fields) → f.opcode ≡ 0b1110011 → Matches f (system f)
system_matches f o = by_test (f.funct3 == 0 && (f.rd == 0 && (f.rs1 == 0 && (f.rs2 == 0 && (f.bit25 == 0 && f.top6 == 0))))) refl
  where
    by_test : (b : Bool) → (f.funct3 == 0 && (f.rd == 0 && (f.rs1 == 0 && (f.rs2 == 0 && (f.bit25 == 0 && f.top6 == 0))))) ≡ b → Matches f (cond b (Some OpEcall) None)
    by_test true e = rw o e
    by_test false e = tt

by_opcode_matches : (f : Fields) → Matches f (kind_by_opcode f)
by_opcode_matches f =
    chosen_matches f f.opcode (by_opcode f) (
      (λ o. chosen_matches f f.funct3 loads (λ k. rw (o, k), (λ k. rw (o, k), (λ k. rw (o, k), (λ k. rw (o, k), (λ k. rw (o, k), (λ k. rw (o, k), (λ k. rw (o, k), tt)))))))),
      (
        (λ o. chosen_matches f f.funct3 (immediates f.top6) (λ k. rw (o, k), (λ k. chosen_matches f f.top6 left_shifts ((λ t. rw (o, k, t)), tt), (λ k. rw (o, k), (λ k. rw (o, k), (λ k. rw (o, k), (λ k. chosen_matches f f.top6 right_shifts ((λ t. rw (o, k, t)), ((λ t. rw (o, k, t)), tt)), (λ k. rw (o, k), (λ k. rw (o, k), tt))))))))),
        (
          (λ o. rw o),
          (
            (λ o. chosen_matches f f.funct3 (word_immediates f.bit25 f.top6) (λ k. rw (o, k), (λ k. chosen_matches f f.bit25 ((0, chosen f.top6 left_word_shifts) ∷ []) ((λ b. chosen_matches f f.top6 left_word_shifts ((λ t. rw (o, k, b, t)), tt)), tt), (λ k. chosen_matches f f.bit25 ((0, chosen f.top6 right_word_shifts) ∷ []) ((λ b. chosen_matches f f.top6 right_word_shifts ((λ t. rw (o, k, b, t)), ((λ t. rw (o, k, b, t)), tt))), tt), tt)))),
            (
              (λ o. chosen_matches f f.funct3 stores (λ k. rw (o, k), (λ k. rw (o, k), (λ k. rw (o, k), (λ k. rw (o, k), tt))))),
              (
                (λ o. chosen_matches f f.bit25 (by_bit25 plain negated multiplying f) (
                  (λ b. chosen_matches f f.top6 (by_sign plain negated f.funct3) (
                    (λ t. chosen_matches f f.funct3 plain (λ k. rw (o, b, t, k), (λ k. rw (o, b, t, k), (λ k. rw (o, b, t, k), (λ k. rw (o, b, t, k), (λ k. rw (o, b, t, k), (λ k. rw (o, b, t, k), (λ k. rw (o, b, t, k), (λ k. rw (o, b, t, k), tt))))))))),
                    ((λ t. chosen_matches f f.funct3 negated (λ k. rw (o, b, t, k), (λ k. rw (o, b, t, k), tt))), tt),
                  )),
                  (
                    (λ b. chosen_matches f f.top6 (by_zero multiplying f.funct3) (
                      (λ t. chosen_matches f f.funct3 multiplying (λ k. rw (o, b, t, k), (λ k. rw (o, b, t, k), (λ k. rw (o, b, t, k), (λ k. rw (o, b, t, k), (λ k. rw (o, b, t, k), (λ k. rw (o, b, t, k), (λ k. rw (o, b, t, k), (λ k. rw (o, b, t, k), tt))))))))),
                      tt,
                    )),
                    tt,
                  ),
                )),
                (
                  (λ o. rw o),
                  (
                    (λ o. chosen_matches f f.bit25 (by_bit25 plain_words negated_words multiplying_words f) (
                      (λ b. chosen_matches f f.top6 (by_sign plain_words negated_words f.funct3) (
                        (λ t. chosen_matches f f.funct3 plain_words (λ k. rw (o, b, t, k), (λ k. rw (o, b, t, k), (λ k. rw (o, b, t, k), tt)))),
                        ((λ t. chosen_matches f f.funct3 negated_words (λ k. rw (o, b, t, k), (λ k. rw (o, b, t, k), tt))), tt),
                      )),
                      (
                        (λ b. chosen_matches f f.top6 (by_zero multiplying_words f.funct3) (
                          (λ t. chosen_matches f f.funct3 multiplying_words (λ k. rw (o, b, t, k), (λ k. rw (o, b, t, k), (λ k. rw (o, b, t, k), (λ k. rw (o, b, t, k), (λ k. rw (o, b, t, k), tt)))))),
                          tt,
                        )),
                        tt,
                      ),
                    )),
                    (
                      (λ o. chosen_matches f f.funct3 branches (λ k. rw (o, k), (λ k. rw (o, k), (λ k. rw (o, k), (λ k. rw (o, k), (λ k. rw (o, k), (λ k. rw (o, k), tt))))))),
                      (
                        (λ o. chosen_matches f f.funct3 ((0, Some OpJalr) ∷ []) ((λ k. rw (o, k)), tt)),
                        (
                          (λ o. rw o),
                          (
                            (λ o. system_matches f o),
                            tt,
                          ),
                        ),
                      ),
                    ),
                  ),
                ),
              ),
            ),
          ),
        ),
      ),
    )

-- what a search finds passes
find_passes : {X : Type 0} (p : X → Bool) (xs : List X) (x : X) → find p xs ≡ Some x → p x ≡ true
find_passes p [] x e = absurd (cc)
find_passes p (y ∷ ys) x e = by_test (p y) refl e (find_passes p ys x)
  where
    by_test : (b : Bool) → p y ≡ b → cond b (Some y) (find p ys) ≡ Some x → (find p ys ≡ Some x → p x ≡ true) → p x ≡ true
    by_test true q k rest = let same : y ≡ x = cc in rw (← same) q
    by_test false q k rest = rest k

-- the kind that is found is one whose row the fields match
pub kind_at_matches : (f : Fields) (k : Kind) → kind_at f ≡ Some k → tests ((row k).format) (row k) f ≡ true
unfolding kind_at
kind_at_matches f k e = find_passes (λ k. tests ((row k).format) (row k) f) kinds k e

-- the kind whose row the fields match is found
pub kind_at_found : (f : Fields) (k : Kind) → IsCut f → tests ((row k).format) (row k) f ≡ true → kind_at f ≡ Some k
kind_at_found f k c e =
    let same = fields_of-operands_in ((row k).format) (row k) f c e in
    let P : Fields → Type 0 = λ g. kind_at g ≡ Some k in
    subst P same (kind_at-fields_of k (operands_in ((row k).format) f))

by_opcode_found : (f : Fields) (k : Kind) → IsCut f → tests ((row k).format) (row k) f ≡ true → kind_by_opcode f ≡ Some k
by_opcode_found f k c e =
    let same = fields_of-operands_in ((row k).format) (row k) f c e in
    let P : Fields → Type 0 = λ g. kind_by_opcode g ≡ Some k in
    subst P same (kind_by_opcode-fields_of k (operands_in ((row k).format) f))

-- both look-ups give the same kind
pub kind_by_opcode_is : (f : Fields) → IsCut f → kind_by_opcode f ≡ kind_at f
kind_by_opcode_is f c = by_answer (kind_by_opcode f) refl (by_opcode_matches f)
  where
    by_search : (o : Option Kind) → kind_at f ≡ o → kind_by_opcode f ≡ None → kind_by_opcode f ≡ kind_at f
    by_search None e n = n ∙ sym e
    by_search (Some k) e n = by_opcode_found f k c (kind_at_matches f k e) ∙ sym e

    by_answer : (o : Option Kind) → kind_by_opcode f ≡ o → Matches f o → kind_by_opcode f ≡ kind_at f
    by_answer None e m = by_search (kind_at f) refl e
    by_answer (Some k) e m = e ∙ sym (kind_at_found f k c m)
