-- A text has at most one token list.
use Rattle.std.proofs.Common.{◌≡◌, ◌⊎◌, inl, inr, ℕ, ◌+◌, ◌<◌, ◌≤◌, nat_lt, Bool, true, false, List, [], ◌∷◌, ◌++◌, length, take, drop, refl, sym, ap, ◌∙◌, subst, arith}
use Rattle.std.specs.List.{prefix_len}
use Rattle.std.proofs.lemmas.List.{take_at, drop_at}
use Rattle.std.proofs.lemmas.Bool.Decides.{nat_tests}
use Rattle.ir_lex.specs.Bytes.{is_blank, is_not_line_feed}
use Rattle.ir_lex.specs.Spelling.{Passes, Stops, Spelled}
use Rattle.ir_lex.specs.Tokens.{rank, Fits, IsToken, IsNoGap, Path, here, blank, comment, next, AreTokens, IsBad}
use Rattle.ir_lex.specs.declared.token.Token.{Token}
use Rattle.ir_lex.specs.declared.token.Kind.{Kind}
use Rattle.ir_lex.specs.declared.token.Kind.TheVariants.{Local, Global, CStr, Label, Str, Float, Int, Word, Meta, Hash, Punct}
use Rattle.ir_lex.proofs.Pieces.{prefix_len-stopped}
use Rattle.ir_lex.proofs.Order.{same_rank}

-- two cuts of one text at the same place
same_cut : (v w a b : List ℕ) → length v ≡ length w → v ++ a ≡ w ++ b → (v ≡ w) × (a ≡ b)
same_cut v w a b l e = (
  sym (take_at v a (length v) refl) ∙ ap (take (length v)) e ∙ take_at w b (length v) (sym l),
  sym (drop_at v a (length v) refl) ∙ ap (drop (length v)) e ∙ drop_at w b (length v) (sym l),
)

below_or : (m n : ℕ) → (m < n) ⊎ (n ≤ m)
below_or m n = by_test m n (nat_lt m n) refl
  where
    by_test : (m n : ℕ) (t : Bool) → nat_lt m n ≡ t → (m < n) ⊎ (n ≤ m)
    by_test m n true e = inl (grind (arith, nat_tests))
    by_test m n false e = inr (grind (arith, nat_tests))

record SameToken (j k : Kind) (v w a b : List ℕ) : Type 0 where
  kind : j ≡ k
  word : v ≡ w
  after : a ≡ b

same_kind : (j k : Kind) (text v w a b : List ℕ) → IsToken j text v a → IsToken k text w b → rank j ≡ rank k → SameToken j k v w a b
same_kind j k text v w a b s t e =
    let kind : j ≡ k = same_rank j k e in
    let here_too : Fits k text v a = subst (λ x. Fits x text v a) kind s.fits in
    let there_too : Fits j text w b = subst (λ x. Fits x text w b) (sym kind) t.fits in
    let long : length v ≡ length w = omega (arith, t.longest v a here_too, s.longest w b there_too) in
    let parts = same_cut v w a b long (sym s.fits.cut ∙ t.fits.cut) in
    record { kind = kind; word = parts.0; after = parts.1 }

same_token : (j k : Kind) (text v w a b : List ℕ) → IsToken j text v a → IsToken k text w b → SameToken j k v w a b
same_token j k text v w a b s t =
    elim (below_or (rank j) (rank k)) [
      | inl less ↦ absurd (t.first j v a less s.fits)
      | inr more ↦ elim (below_or (rank k) (rank j)) [
        | inl less ↦ absurd (s.first k w b less t.fits)
        | inr both ↦ same_kind j k text v w a b s t (omega arith)
      ]
    ]

-- a comment is cut in one way
same_comment : (body other after rest : List ℕ) → Passes is_not_line_feed body → Passes is_not_line_feed other → Stops is_not_line_feed after → Stops is_not_line_feed rest
    → body ++ after ≡ other ++ rest → (body ≡ other) × (after ≡ rest)
same_comment body other after rest p q s t e =
    let long : length body ≡ length other = sym (prefix_len-stopped is_not_line_feed body after p s) ∙ ap (prefix_len is_not_line_feed) e ∙ prefix_len-stopped is_not_line_feed other rest q t in
    same_cut body other after rest long e

-- no token is empty
spelled-nil : (k : Kind) → Spelled k [] → ⊥
spelled-nil Local h = h
spelled-nil Global h = h
spelled-nil CStr h = h
spelled-nil Label h = nil_label h.0 h.1
  where
    nil_label : (name : List ℕ) → [] ≡ name ++ 58 ∷ [] → ⊥
    nil_label [] e = cc
    nil_label (x ∷ xs) e = cc
spelled-nil Str h = h
spelled-nil Float (inl h) = h
spelled-nil Float (inr (inl h)) = nil_fraction h.whole _ h.spelled
  where
    nil_fraction : (whole tail : List ℕ) → [] ≡ whole ++ (46 ∷ tail) → ⊥
    nil_fraction [] tail e = cc
    nil_fraction (x ∷ xs) tail e = cc
spelled-nil Float (inr (inr h)) = h
spelled-nil Int (inl h) = h.0
spelled-nil Int (inr h) = h
spelled-nil Word h = h
spelled-nil Meta h = h
spelled-nil Hash h = h
spelled-nil Punct h = h

-- neither a gap nor a token begins
pub record IsStuck (rest : List ℕ) : Type 0 where
  pub no_gap : IsNoGap rest
  pub no_token : (k : Kind) (w after : List ℕ) → Fits k rest w after → ⊥

pub fits-long : (k : Kind) (text w after : List ℕ) → Fits k text w after → 0 < length w
fits-long k text [] after f = absurd (spelled-nil k f.spelled)
fits-long k text (x ∷ w) after f = omega arith

nothing_fits : (k : Kind) (w after : List ℕ) → Fits k [] w after → ⊥
nothing_fits k [] after f = spelled-nil k f.spelled
nothing_fits k (x ∷ w) after f = let wrong : [] ≡ (x ∷ w) ++ after = f.cut in cc

pub stuck_end : IsStuck []
stuck_end = record { no_gap = tt; no_token = nothing_fits }

semicolon : is_blank 59 ≡ false
unfolding is_blank
semicolon = refl

pub record SameWalk (ts us : List Token) (to other : ℕ) (r s : List ℕ) : Type 0 where
  pub toks : ts ≡ us
  pub place : to ≡ other
  pub rest : r ≡ s

same_next : (at : ℕ) (fresh : Bool) (j k : Kind) (v w : List ℕ) (ts us : List Token) → j ≡ k → v ≡ w → ts ≡ us
    → ◌≡◌ {A = List Token} (record { kind = j; start = at; «end» = at + length v; first = fresh } ∷ ts) (record { kind = k; start = at; «end» = at + length w; first = fresh } ∷ us)
same_next at fresh j k v w ts us a b c = λ i. record { kind = a i; start = at; «end» = at + length (b i); first = fresh } ∷ c i

-- two walks from one place that can't go on are one
pub one_walk : {a to other : ℕ} {f g h : Bool} {text r s : List ℕ} {ts us : List Token} → Path a f text ts to g r → Path a f text us other h s → IsStuck r → IsStuck s → SameWalk ts us to other r s
one_walk here here m n = record { toks = refl; place = refl; rest = refl }
one_walk here (blank b p) m n = absurd (let wrong : false ≡ true = sym m.no_gap.0 ∙ b in cc)
one_walk here (comment body after e p s q) m n = absurd (let wrong : true ≡ false = m.no_gap.1 in cc)
one_walk here (next k w after gap token q) m n = absurd (m.no_token k w after token.fits)
one_walk (blank b p) here m n = absurd (let wrong : false ≡ true = sym n.no_gap.0 ∙ b in cc)
one_walk (blank b p) (blank c q) m n = one_walk p q m n
one_walk (blank b p) (comment body after e r s q) m n = absurd (let wrong : false ≡ true = sym semicolon ∙ b in cc)
one_walk (blank b p) (next k w after gap token q) m n = absurd (let wrong : false ≡ true = sym gap.0 ∙ b in cc)
one_walk (comment body after e x y p) here m n = absurd (let wrong : true ≡ false = n.no_gap.1 in cc)
one_walk (comment body after e x y p) (blank b q) m n = absurd (let wrong : false ≡ true = sym semicolon ∙ b in cc)
one_walk {a} {other = other} {f} {h = h} {s = s} {us = us} (comment body after e x y p) (comment body' after' e' x' y' q) m n =
    let same = same_comment body' body after' after x' x y' y (sym e' ∙ e) in
    let moved : Path (a + (1 + length body)) f after us other h s = subst (λ z. Path (a + (1 + length body)) f z us other h s) same.1 (subst (λ z. Path (a + (1 + length z)) f after' us other h s) same.0 q) in
    one_walk p moved m n
one_walk (comment body after e x y p) (next k w after' gap token q) m n = absurd (let wrong : true ≡ false = gap.1 in cc)
one_walk (next k w after gap token p) here m n = absurd (n.no_token k w after token.fits)
one_walk (next k w after gap token p) (blank b q) m n = absurd (let wrong : false ≡ true = sym gap.0 ∙ b in cc)
one_walk (next k w after gap token p) (comment body after' e x y q) m n = absurd (let wrong : true ≡ false = gap.1 in cc)
one_walk {a} {other = other} {f} {h = h} {text} {s = s} (next {toks = ts} k w after gap token p) (next {toks = us} k' w' after' gap' token' q) m n =
    let same = same_token k' k text w' w after' after token' token in
    let moved : Path (a + length w) false after us other h s = subst (λ z. Path (a + length w) false z us other h s) same.after (subst (λ z. Path (a + length z) false after' us other h s) same.word q) in
    let more = one_walk p moved m n in
    record { toks = same_next a f k k' w w' ts us (sym same.kind) (sym same.word) more.toks; place = more.place; rest = more.rest }

pub bad_stuck : (text : List ℕ) (at : ℕ) (b : IsBad text at) → IsStuck b.rest
bad_stuck text at b = record { no_gap = b.no_gap; no_token = b.no_token }

pub one_token_list : (text : List ℕ) (ts us : List Token) → AreTokens text ts → AreTokens text us → ts ≡ us
one_token_list text ts us p q = (one_walk p.1 q.1 stuck_end stuck_end).toks

pub tokens_or_bad : (text : List ℕ) (ts : List Token) (at : ℕ) → AreTokens text ts → IsBad text at → ⊥
tokens_or_bad text ts at p b = b.more (sym (one_walk p.1 b.path stuck_end (bad_stuck text at b)).rest)

pub one_bad_place : (text : List ℕ) (at other : ℕ) → IsBad text at → IsBad text other → at ≡ other
one_bad_place text at other b c = (one_walk b.path c.path (bad_stuck text at b) (bad_stuck text other c)).place
