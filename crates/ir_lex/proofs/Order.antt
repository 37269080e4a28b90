-- The first rule that fits, by trying the rules in their order.
use Rattle.std.proofs.Common.{◌≡◌, ◌≢◌, inl, inr, ℕ, zero, suc, ◌+◌, ◌<◌, ◌≤◌, lit<, List, length, Option, Some, None, refl, sym, ap, ◌∙◌, arith}
use Rattle.std.proofs.lemmas.Bool.Decides.{eqb_tells}
use Rattle.ir_lex.specs.Tokens.{rank, Fits, IsToken}
use Rattle.ir_lex.specs.Lengths.{length_of, or_later, first_token}
use Rattle.ir_lex.specs.declared.token.Kind.{Kind}
use Rattle.ir_lex.specs.declared.token.Kind.TheVariants.{Local, Global, CStr, Label, Str, Float, Int, Word, Meta, Hash, Punct}
use Rattle.ir_lex.proofs.Pieces.{Finds, some_is}
use Rattle.ir_lex.proofs.Rules.{rule_fits, rule_finds}

-- the kind of a rank
kind_at : ℕ → Kind
kind_at zero = Local
kind_at (suc zero) = Global
kind_at (suc (suc zero)) = CStr
kind_at (suc (suc (suc zero))) = Label
kind_at (suc (suc (suc (suc zero)))) = Str
kind_at (suc (suc (suc (suc (suc zero))))) = Float
kind_at (suc (suc (suc (suc (suc (suc zero)))))) = Int
kind_at (suc (suc (suc (suc (suc (suc (suc zero))))))) = Word
kind_at (suc (suc (suc (suc (suc (suc (suc (suc zero)))))))) = Meta
kind_at (suc (suc (suc (suc (suc (suc (suc (suc (suc zero))))))))) = Hash
kind_at (suc (suc (suc (suc (suc (suc (suc (suc (suc (suc n)))))))))) = Punct

kind_at-rank : (k : Kind) → kind_at (rank k) ≡ k
unfolding kind_at
kind_at-rank Local = refl
kind_at-rank Global = refl
kind_at-rank CStr = refl
kind_at-rank Label = refl
kind_at-rank Str = refl
kind_at-rank Float = refl
kind_at-rank Int = refl
kind_at-rank Word = refl
kind_at-rank Meta = refl
kind_at-rank Hash = refl
kind_at-rank Punct = refl

-- kinds of one rank are one
pub same_rank : (j k : Kind) → rank j ≡ rank k → j ≡ k
same_rank j k e = sym (kind_at-rank j) ∙ ap kind_at e ∙ kind_at-rank k

rank_below : (k : Kind) → rank k < 11
rank_below Local = lit< tt
rank_below Global = lit< tt
rank_below CStr = lit< tt
rank_below Label = lit< tt
rank_below Str = lit< tt
rank_below Float = lit< tt
rank_below Int = lit< tt
rank_below Word = lit< tt
rank_below Meta = lit< tt
rank_below Hash = lit< tt
rank_below Punct = lit< tt

-- the kinds from rank i on are tried in order
record TriesFrom (i : ℕ) (text : List ℕ) (answer : Option (Kind × ℕ)) : Type 0 where
  found : (k : Kind) (n : ℕ) → answer ≡ Some (k, n) → (length_of k text ≡ Some n) × ((j : Kind) → i ≤ rank j → rank j < rank k → length_of j text ≡ None)
  none : answer ≡ None → (j : Kind) → i ≤ rank j → length_of j text ≡ None

tries_none : (text : List ℕ) → TriesFrom 11 text None
tries_none text = record { found = λ k n e. absurd (cc); none = λ e j h. absurd (omega (arith, rank_below j)) }

at_rank : (i : ℕ) (k : Kind) (text : List ℕ) → rank k ≡ i → length_of k text ≡ None → (j : Kind) → i ≤ rank j → (i + 1 ≤ rank j → length_of j text ≡ None) → length_of j text ≡ None
at_rank i k text r e j h above =
    elim (eqb_tells (rank j) i) [
      | inl same ↦ ap (λ x. length_of x text) (same_rank j k (same.1 ∙ sym r)) ∙ e
      | inr other ↦ let ne : rank j ≢ i = other.1 in above (omega arith)
    ]

tries_step : (k : Kind) (i : ℕ) (text : List ℕ) (o : Option ℕ) (later : Option (Kind × ℕ)) → rank k ≡ i → length_of k text ≡ o → TriesFrom (i + 1) text later → TriesFrom i text (or_later k o later)
tries_step k i text None later r e t = record {
  found = λ j n f. let more = t.found j n f in (more.0, λ x h l. at_rank i k text r e x h (λ u. more.1 x u l));
  none = λ f j h. at_rank i k text r e j h (λ u. t.none f j u);
}
tries_step k i text (Some m) later r e t = record {
  found = λ j n f.
      let pair : ◌≡◌ {A = Kind × ℕ} (k, m) (j, n) = some_is _ _ f in
      let kind : k ≡ j = ap (λ p. p.0) pair in
      let count : m ≡ n = ap (λ p. p.1) pair in
      let ranks : rank k ≡ rank j = ap rank kind in
      (ap (λ x. length_of x text) (sym kind) ∙ e ∙ ap Some count, λ x h l. absurd (omega arith));
  none = λ f j h. absurd (cc);
}

tries : (text : List ℕ) → TriesFrom 0 text (first_token text)
tries text =
    tries_step Local 0 text _ _ refl refl (tries_step Global 1 text _ _ refl refl (tries_step CStr 2 text _ _ refl refl
    (tries_step Label 3 text _ _ refl refl (tries_step Str 4 text _ _ refl refl (tries_step Float 5 text _ _ refl refl
    (tries_step Int 6 text _ _ refl refl (tries_step Word 7 text _ _ refl refl (tries_step Meta 8 text _ _ refl refl
    (tries_step Hash 9 text _ _ refl refl (tries_step Punct 10 text _ _ refl refl (tries_none text)))))))))))

-- the token that a text begins with is n bytes long
pub record TokenAt (k : Kind) (text : List ℕ) (n : ℕ) : Type 0 where
  pub front : List ℕ
  pub rest : List ℕ
  pub token : IsToken k text front rest
  pub long : length front ≡ n

nothing : (o : Option ℕ) (m : ℕ) → o ≡ None → Finds o m → ⊥
nothing o m e f = let both : None ≡ Some f.count = sym e ∙ f.is in cc

pub first_token-some : (text : List ℕ) (k : Kind) (n : ℕ) → first_token text ≡ Some (k, n) → TokenAt k text n
first_token-some text k n e =
    let t = (tries text).found k n e in
    let f = rule_fits k text n t.0 in
    record {
      front = f.front;
      rest = f.rest;
      token = record {
        fits = f.fits;
        longest = λ v other h.
            let g = rule_finds k text v other h in
            let same : g.count ≡ n = some_is _ _ (sym g.is ∙ t.0) in
            omega (arith, g.enough, f.long);
        first = λ j v other l h. nothing _ _ (t.1 j (omega arith) l) (rule_finds j text v other h);
      };
      long = f.long;
    }

pub first_token-none : (text : List ℕ) → first_token text ≡ None → (k : Kind) (w after : List ℕ) → Fits k text w after → ⊥
first_token-none text e k w after f = nothing _ _ ((tries text).none e k (omega arith)) (rule_finds k text w after f)
