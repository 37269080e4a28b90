-- Integers: what the lengths find is what the rule says.
use Rattle.std.proofs.Common.{◌≡◌, ◌⊎◌, inl, inr, ℕ, ◌+◌, ◌^◌, ◌<◌, ◌==◌, Bool, true, false, cond, List, [], ◌∷◌, ◌++◌, length, take, drop, Option, Some, None, refl, sym, ap, ◌∙◌, arith, nat_lt}
use Rattle.std.specs.List.{prefix_len}
use Rattle.std.specs.Str.Parse.{digits_value}
use Rattle.std.proofs.lemmas.Bool.{eqb-true, eq-eqb, false_from_ne_true}
use Rattle.std.proofs.lemmas.Bool.Decides.{nat_tests}
use Rattle.std.proofs.lemmas.List.{drop_at, take_at}
use Rattle.std.proofs.Math.Seq.{drop-append_seam, take-append_seam}
use Rattle.ir_lex.specs.Bytes.{is_name_byte, is_digit}
use Rattle.ir_lex.specs.Spelling.{Stops, Follows, IsNumberBelow}
use Rattle.ir_lex.specs.Lengths.{begins_by, after_byte, one_more, is_number_below, number_len, integer_len}
use Rattle.ir_lex.proofs.Pieces.{run_of, prefix_len-stopped, IsRun-Passes, IsRun-long, IsRun-from, above_zero, not_zero, if_some, unless_some, map_some, some_is}

-- a beginning that is of L, n bytes long, and that no byte of a name follows
pub record CutsOff (L : List ℕ → Type 0) (text : List ℕ) (n : ℕ) : Type 0 where
  pub front : List ℕ
  pub rest : List ℕ
  pub cut : text ≡ front ++ rest
  pub long : length front ≡ n
  pub spelled : L front
  pub stops : Stops is_name_byte rest

-- digits are bytes of names
name_from_digit : (x : ℕ) → is_digit x ≡ true → is_name_byte x ≡ true
unfolding is_name_byte is_digit
name_from_digit x e = grind (arith, nat_tests)

digit_stops : (x : ℕ) → is_name_byte x ≡ false → is_digit x ≡ false
digit_stops x h = false_from_ne_true _ (λ e. let wrong : true ≡ false = sym (name_from_digit x e) ∙ h in cc)

pub stops_digit : (r : List ℕ) → Stops is_name_byte r → Stops is_digit r
stops_digit [] h = tt
stops_digit (x ∷ r) h = digit_stops x h

stops_from : (p : ℕ → Bool) (r : List ℕ) → begins_by p r ≡ false → Stops p r
stops_from p [] h = tt
stops_from p (x ∷ r) h = h

begins_from : (p : ℕ → Bool) (r : List ℕ) → Stops p r → begins_by p r ≡ false
begins_from p [] h = refl
begins_from p (x ∷ r) h = h

below_true : (a b : ℕ) → a < b → nat_lt a b ≡ true
below_true a b h = grind (arith, nat_tests)

true_below : (a b : ℕ) → nat_lt a b ≡ true → a < b
true_below a b h = grind (arith, nat_tests)

unless_true : (b c : Bool) → cond b false c ≡ true → (b ≡ false) × (c ≡ true)
unless_true true c e = absurd (cc)
unless_true false c e = (refl, e)

number_cut : (limit : ℕ) (text : List ℕ) (n : ℕ) → number_len limit text ≡ Some n → CutsOff (IsNumberBelow limit) text n
number_cut limit text n e =
    let run = run_of is_digit text in
    let count : ℕ = prefix_len is_digit text in
    let some : ((count == 0) ≡ false) × (cond (is_number_below limit count text) (Some count) None ≡ Some n) = unless_some (count == 0) _ n e in
    let below : (is_number_below limit count text ≡ true) × (Some count ≡ Some n) = if_some (is_number_below limit count text) (Some count) n some.1 in
    let parts : (begins_by is_name_byte (drop count text) ≡ false) × (nat_lt (digits_value 10 (take count text)) limit ≡ true) = unless_true _ _ below.0 in
    let behind : drop count text ≡ run.rest = ap (drop count) run.cut ∙ drop_at run.front run.rest count run.long in
    let digits : take count text ≡ run.front = ap (take count) run.cut ∙ take_at run.front run.rest count run.long in
    record {
      front = run.front;
      rest = run.rest;
      cut = run.cut;
      long = run.long ∙ some_is _ _ below.1;
      spelled = (IsRun-from is_digit run.front run.passes (omega (arith, run.long, not_zero count some.0)), true_below _ _ (ap (λ ds. nat_lt (digits_value 10 ds) limit) (sym digits) ∙ parts.1));
      stops = stops_from is_name_byte run.rest (ap (begins_by is_name_byte) (sym behind) ∙ parts.0);
    }

number_is : (limit : ℕ) (v r : List ℕ) → IsNumberBelow limit v → Stops is_name_byte r → number_len limit (v ++ r) ≡ Some (length v)
number_is limit v r h s =
    let count : prefix_len is_digit (v ++ r) ≡ length v = prefix_len-stopped is_digit v r (IsRun-Passes _ v h.0) (stops_digit r s) in
    let some : (length v == 0) ≡ false = above_zero (length v) (IsRun-long _ v h.0) in
    let stop : begins_by is_name_byte (drop (length v) (v ++ r)) ≡ false = rw drop-append_seam (begins_from is_name_byte r s) in
    let less : nat_lt (digits_value 10 (take (length v) (v ++ r))) limit ≡ true = rw take-append_seam (below_true _ _ h.1) in
    rw (count, some, stop, less) refl

abbrev pub IsInteger : List ℕ → Type 0
IsInteger w = IsNumberBelow (2 ^ 127) w ⊎ Follows 45 (IsNumberBelow (2 ^ 127 + 1)) w

minus_cut : (L : List ℕ → Type 0) (piece : List ℕ → Option ℕ) → ((text : List ℕ) (n : ℕ) → piece text ≡ Some n → CutsOff L text n) → (text : List ℕ) (n : ℕ) → after_byte 45 piece text ≡ Some n → CutsOff (Follows 45 L) text n
minus_cut L piece f [] n e = absurd (cc)
minus_cut L piece f (x ∷ xs) n e =
    let here : ((x == 45) ≡ true) × (one_more (piece xs) ≡ Some n) = if_some (x == 45) (one_more (piece xs)) n e in
    let inner : (m : ℕ) × (piece xs ≡ Some m) × (m + 1 ≡ n) = map_some (λ m. m + 1) (piece xs) n here.1 in
    let cuts = f xs inner.0 inner.1 in
    record { front = x ∷ cuts.front; rest = cuts.rest; cut = ap (λ t. x ∷ t) cuts.cut; long = omega (arith, cuts.long, inner.2); spelled = (eqb-true x 45 here.0, cuts.spelled); stops = cuts.stops }

integer_by : (low high : ℕ) (text : List ℕ) (n : ℕ) (t : Bool) → cond t (after_byte 45 (number_len high) text) (number_len low text) ≡ Some n
    → CutsOff (λ w. IsNumberBelow low w ⊎ Follows 45 (IsNumberBelow high) w) text n
integer_by low high text n true e =
    let cuts = minus_cut _ _ (number_cut high) text n e in
    record { front = cuts.front; rest = cuts.rest; cut = cuts.cut; long = cuts.long; spelled = inr cuts.spelled; stops = cuts.stops }
integer_by low high text n false e =
    let cuts = number_cut low text n e in
    record { front = cuts.front; rest = cuts.rest; cut = cuts.cut; long = cuts.long; spelled = inl cuts.spelled; stops = cuts.stops }

pub integer_cut : (text : List ℕ) (n : ℕ) → integer_len text ≡ Some n → CutsOff IsInteger text n
integer_cut text n e = integer_by (2 ^ 127) (2 ^ 127 + 1) text n _ e

no_minus : (x : ℕ) → is_digit x ≡ true → (x == 45) ≡ false
unfolding is_digit
no_minus x h = false_from_ne_true (x == 45) (λ e. let here : x ≡ 45 = eqb-true x 45 e in let wrong : false ≡ true = rw here at h in cc)

signed_is : (low high : ℕ) (v r : List ℕ) → IsNumberBelow low v ⊎ Follows 45 (IsNumberBelow high) v → Stops is_name_byte r
    → cond (begins_by (λ b. b == 45) (v ++ r)) (after_byte 45 (number_len high) (v ++ r)) (number_len low (v ++ r)) ≡ Some (length v)
signed_is low high [] r (inl h) s = absurd h.0
signed_is low high [] r (inr h) s = absurd h
signed_is low high (x ∷ v) r (inl h) s = rw (no_minus x h.0.0) (number_is low (x ∷ v) r h s)
signed_is low high (x ∷ v) r (inr h) s = rw (eq-eqb x 45 h.0, number_is high v r h.1 s) (ap Some (omega arith))

pub integer_is : (v r : List ℕ) → IsInteger v → Stops is_name_byte r → integer_len (v ++ r) ≡ Some (length v)
integer_is v r h s = signed_is (2 ^ 127) (2 ^ 127 + 1) v r h s
