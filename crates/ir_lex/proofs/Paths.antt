-- A path through a text, step by step.
use Rattle.std.proofs.Common.{◌≡◌, ℕ, ◌+◌, ◌<◌, ◌==◌, ◌||◌, Bool, true, false, cond, List, [], ◌∷◌, ◌++◌, length, drop, Some, None, refl, sym, ap, ◌∙◌, subst, arith}
use Rattle.std.specs.List.{prefix_len}
use Rattle.std.proofs.lemmas.Bool.{eqb-true}
use Rattle.std.proofs.lemmas.List.{drop_at, drop-drop, length-drop}
use Rattle.ir_lex.specs.Bytes.{is_blank, is_not_line_feed}
use Rattle.ir_lex.specs.Tokens.{IsNoGap, Path, here, blank, comment, next, AreTokens, IsBad}
use Rattle.ir_lex.specs.Lengths.{begins_by, gap_len, first_token}
use Rattle.ir_lex.specs.declared.token.Token.{Token}
use Rattle.ir_lex.specs.declared.token.Kind.{Kind}
use Rattle.ir_lex.proofs.Pieces.{run_of, if_some, some_is}
use Rattle.ir_lex.proofs.Unique.{fits-long}
use Rattle.ir_lex.proofs.Order.{first_token-some, first_token-none}

-- two paths in a row
pub join : {a b c : ℕ} {f g h : Bool} {t u w : List ℕ} {ts us : List Token} → Path a f t ts b g u → Path b g u us c h w → Path a f t (ts ++ us) c h w
join here q = q
join (blank is p) q = blank is (join p q)
join (comment body after cut passes stops p) q = comment body after cut passes stops (join p q)
join (next k w after gap token p) q = next k w after gap token (join p q)

or-false : (b : Bool) → (b || false) ≡ b
or-false true = refl
or-false false = refl

append-nil : {A : Type 0} (xs : List A) → xs ++ [] ≡ xs
append-nil [] = refl
append-nil (x ∷ xs) = ap (λ t. x ∷ t) (append-nil xs)

-- a blank or a comment n bytes long
record GapAt (at : ℕ) (fresh : Bool) (text : List ℕ) (n : ℕ) : Type 0 where
  rest : List ℕ
  behind : drop n text ≡ rest
  path : Path at fresh text [] (at + n) (fresh || begins_by (λ b. b == 10) text) rest

comment_at : (at : ℕ) (fresh : Bool) (b : ℕ) (bs : List ℕ) (n : ℕ) → (b == 59) ≡ true → prefix_len is_not_line_feed bs + 1 ≡ n → GapAt at fresh (b ∷ bs) n
comment_at at fresh b bs n semicolon e =
    let run = run_of is_not_line_feed bs in
    let is : b ≡ 59 = eqb-true b 59 semicolon in
    let count : 1 + length run.front ≡ n = omega (arith, run.long, e) in
    let to : at + (1 + length run.front) ≡ at + n = ap (λ m. at + m) count in
    let whole : b ∷ bs ≡ (b ∷ run.front) ++ run.rest = ap (λ t. b ∷ t) run.cut in
    let walk : Path at fresh (59 ∷ bs) [] (at + (1 + length run.front)) fresh run.rest = comment run.front run.rest run.cut run.passes run.stops here in
    let turned : Path at fresh (59 ∷ bs) [] (at + n) fresh run.rest = subst (λ m. Path at fresh (59 ∷ bs) [] m fresh run.rest) to walk in
    record {
      rest = run.rest;
      behind = ap (drop n) whole ∙ drop_at (b ∷ run.front) run.rest n (omega (arith, count));
      path = subst (λ x. Path at fresh (x ∷ bs) [] (at + n) (fresh || (x == 10)) run.rest) (sym is) (subst (λ g. Path at fresh (59 ∷ bs) [] (at + n) g run.rest) (sym (or-false fresh)) turned);
    }

gap_by : (at : ℕ) (fresh : Bool) (b : ℕ) (bs : List ℕ) (n : ℕ) (t : Bool) → is_blank b ≡ t → cond t (Some 1) (cond (b == 59) (Some (prefix_len is_not_line_feed bs + 1)) None) ≡ Some n → GapAt at fresh (b ∷ bs) n
gap_by at fresh b bs n true is e =
    let one : 1 ≡ n = some_is _ _ e in
    subst (λ m. GapAt at fresh (b ∷ bs) m) one (record { rest = bs; behind = refl; path = blank is here })
gap_by at fresh b bs n false is e =
    let found : ((b == 59) ≡ true) × (Some (prefix_len is_not_line_feed bs + 1) ≡ Some n) = if_some (b == 59) _ n e in
    comment_at at fresh b bs n found.0 (some_is _ _ found.1)

gap_at : (at : ℕ) (fresh : Bool) (text : List ℕ) (n : ℕ) → gap_len text ≡ Some n → GapAt at fresh text n
gap_at at fresh [] n e = absurd (cc)
gap_at at fresh (b ∷ bs) n e = gap_by at fresh b bs n (is_blank b) refl e

no_gap_by : (b : ℕ) (m : ℕ) (s t : Bool) → is_blank b ≡ s → (b == 59) ≡ t → cond s (Some 1) (cond t (Some m) None) ≡ None → (is_blank b ≡ false) × ((b == 59) ≡ false)
no_gap_by b m true t i j e = absurd (cc)
no_gap_by b m false true i j e = absurd (cc)
no_gap_by b m false false i j e = (i, j)

no_gap : (text : List ℕ) → gap_len text ≡ None → IsNoGap text
no_gap [] e = tt
no_gap (b ∷ bs) e = no_gap_by b _ _ _ refl refl e

-- a blank or a comment goes on
pub step_gap : (text : List ℕ) (toks : List Token) (at n : ℕ) (fresh : Bool) → Path 0 true text toks at fresh (drop at text) → gap_len (drop at text) ≡ Some n
    → Path 0 true text toks (at + n) (fresh || begins_by (λ b. b == 10) (drop at text)) (drop (at + n) text)
step_gap text toks at n fresh p e =
    let gap = gap_at at fresh (drop at text) n e in
    let joined : Path 0 true text (toks ++ []) (at + n) (fresh || begins_by (λ b. b == 10) (drop at text)) gap.rest = join p gap.path in
    let same : gap.rest ≡ drop (at + n) text = sym gap.behind ∙ drop-drop n at text in
    subst (λ r. Path 0 true text toks (at + n) (fresh || begins_by (λ b. b == 10) (drop at text)) r) same
    (subst (λ ts. Path 0 true text ts (at + n) (fresh || begins_by (λ b. b == 10) (drop at text)) gap.rest) (append-nil toks) joined)

-- a token goes on
pub step_token : (text : List ℕ) (toks : List Token) (at n : ℕ) (fresh : Bool) (k : Kind) → Path 0 true text toks at fresh (drop at text) → gap_len (drop at text) ≡ None → first_token (drop at text) ≡ Some (k, n)
    → Path 0 true text (toks ++ record { kind = k; start = at; «end» = at + n; first = fresh } ∷ []) (at + n) false (drop (at + n) text)
step_token text toks at n fresh k p g e =
    let found = first_token-some (drop at text) k n e in
    let behind : drop n (drop at text) ≡ found.rest = ap (drop n) found.token.fits.cut ∙ drop_at found.front found.rest n found.long in
    let one : Path at fresh (drop at text) (record { kind = k; start = at; «end» = at + length found.front; first = fresh } ∷ []) (at + length found.front) false found.rest =
    next k found.front found.rest (no_gap (drop at text) g) found.token here in
    let sized : Path at fresh (drop at text) (record { kind = k; start = at; «end» = at + n; first = fresh } ∷ []) (at + n) false found.rest =
    subst (λ m. Path at fresh (drop at text) (record { kind = k; start = at; «end» = at + m; first = fresh } ∷ []) (at + m) false found.rest) found.long one in
    subst (λ r. Path 0 true text (toks ++ record { kind = k; start = at; «end» = at + n; first = fresh } ∷ []) (at + n) false r) (sym behind ∙ drop-drop n at text) (join p sized)

none_left : (at : ℕ) (text : List ℕ) → at < length text → drop at text ≡ [] → ⊥
none_left at text h e = let short = simp length-drop at (ap length e) in omega arith

-- nothing begins here
pub stop_bad : (text : List ℕ) (toks : List Token) (at : ℕ) (fresh : Bool) → Path 0 true text toks at fresh (drop at text) → at < length text → gap_len (drop at text) ≡ None → first_token (drop at text) ≡ None → IsBad text at
stop_bad text toks at fresh p h g e = record {
  toks = toks;
  fresh = fresh;
  rest = drop at text;
  path = p;
  more = none_left at text h;
  no_gap = no_gap (drop at text) g;
  no_token = first_token-none (drop at text) e;
}

drop_all : (text : List ℕ) → drop (length text) text ≡ []
drop_all [] = refl
drop_all (b ∷ bs) = drop_all bs

-- the end is reached
pub finish : (text : List ℕ) (toks : List Token) (at : ℕ) (fresh : Bool) → Path 0 true text toks at fresh (drop at text) → at ≡ length text → AreTokens text toks
finish text toks at fresh p e = (fresh, subst (λ r. Path 0 true text toks (length text) fresh r) (drop_all text) (subst (λ n. Path 0 true text toks n fresh (drop n text)) e p))

-- a token is not empty
pub first_token-positive : (text : List ℕ) (k : Kind) (n : ℕ) → first_token text ≡ Some (k, n) → 0 < n
first_token-positive text k n e =
    let found = first_token-some text k n e in
    omega (arith, found.long, fits-long k text found.front found.rest found.token.fits)
