-- Strings, names and labels: what the lengths find is what the rules say.
use Rattle.std.proofs.Common.{◌≡◌, inl, inr, ℕ, ◌+◌, ◌==◌, Bool, true, false, cond, List, [], ◌∷◌, ◌++◌, length, drop, Option, Some, None, refl, sym, ap, ◌∙◌, arith, append_assoc}
use Rattle.std.specs.Prelude.{option_and_then}
use Rattle.std.specs.List.{prefix_len}
use Rattle.std.proofs.lemmas.Bool.{eqb-true, eq-eqb, false_from_ne_true}
use Rattle.std.proofs.lemmas.Bool.Decides.{nat_tests}
use Rattle.std.proofs.lemmas.List.{length-append, drop_at}
use Rattle.std.proofs.Math.Seq.{drop-append_seam}
use Rattle.ir_lex.specs.Bytes.{is_name_byte, is_not_quote}
use Rattle.ir_lex.specs.Spelling.{Passes, IsRun, Stops, IsQuotedEnd, IsString, IsName}
use Rattle.ir_lex.specs.Lengths.{begins_by, quoted_end_len, string_len, name_len, run_len, colon_len, label_len}
use Rattle.ir_lex.proofs.Pieces.{Cuts, Finds, Greedy, run_of, prefix_len-stopped, IsRun-Passes, IsRun-long, positive_is, if_some, unless_some, some_is, greedy-after_byte, greedy-run}

quote_stops : is_not_quote 34 ≡ false
unfolding is_not_quote
quote_stops = refl

a_quote : (x : ℕ) → is_not_quote x ≡ false → x ≡ 34
unfolding is_not_quote
a_quote x e = grind (arith, nat_tests)

-- a name's bytes are no quotes
no_quote : (x : ℕ) → is_name_byte x ≡ true → (x == 34) ≡ false
unfolding is_name_byte
no_quote x h = false_from_ne_true (x == 34) (λ e. let here : x ≡ 34 = eqb-true x 34 e in let wrong : false ≡ true = rw here at h in cc)

colon_stops : is_name_byte 58 ≡ false
unfolding is_name_byte
colon_stops = refl

apart : (m n : ℕ) → (m ≡ n → ⊥) → (m == n) ≡ false
apart m n ne = false_from_ne_true (m == n) (λ e. ne (eqb-true m n e))

quote_cut : (text front rest : List ℕ) → text ≡ front ++ rest → Passes is_not_quote front → Stops is_not_quote rest → (length front ≡ length text → ⊥) → Cuts IsQuotedEnd text (length front + 1)
quote_cut text front [] e p s ne = absurd (ne (omega (arith, ap length e, length-append {A = ℕ} front [])))
quote_cut text front (x ∷ r) e p s ne = record {
  front = front ++ x ∷ [];
  rest = r;
  cut = e ∙ sym (append_assoc front (x ∷ []) r);
  long = simp length-append (omega arith);
  spelled = (front, ap (λ b. front ++ b ∷ []) (a_quote x s), p);
}

pub quoted_end_is : (v r : List ℕ) → IsQuotedEnd v → quoted_end_len (v ++ r) ≡ Some (length v)
quoted_end_is v r h =
    let whole : v ++ r ≡ h.0 ++ (34 ∷ r) = rw h.1 (append_assoc h.0 (34 ∷ []) r) in
    let count : prefix_len is_not_quote (h.0 ++ (34 ∷ r)) ≡ length h.0 = prefix_len-stopped is_not_quote h.0 (34 ∷ r) h.2 quote_stops in
    let less : (length h.0 == length (h.0 ++ (34 ∷ r))) ≡ false = apart _ _ (λ e. let long = simp length-append at e in omega arith) in
    rw (whole, count, less) (ap Some (rw h.1 (simp length-append (omega arith))))

pub greedy-quoted_end : Greedy IsQuotedEnd quoted_end_len
greedy-quoted_end = record {
  fits = λ text n e.
      let run = run_of is_not_quote text in
      let here : ((prefix_len is_not_quote text == length text) ≡ false) × (Some (prefix_len is_not_quote text + 1) ≡ Some n) = unless_some _ _ n e in
      let cuts = quote_cut text run.front run.rest run.cut run.passes run.stops (λ same. let l : prefix_len is_not_quote text ≡ length text = sym run.long ∙ same in let t : (prefix_len is_not_quote text == length text) ≡ true = eq-eqb _ _ l in let wrong : false ≡ true = sym here.0 ∙ t in cc) in
      record { front = cuts.front; rest = cuts.rest; cut = cuts.cut; long = cuts.long ∙ ap (λ m. m + 1) run.long ∙ some_is _ _ here.1; spelled = cuts.spelled };
  finds = λ v r h. record { count = length v; is = quoted_end_is v r h; enough = omega arith };
}

pub greedy-string : Greedy IsString string_len
greedy-string = greedy-after_byte 34 IsQuotedEnd quoted_end_len greedy-quoted_end

pub string_is : (v r : List ℕ) → IsString v → string_len (v ++ r) ≡ Some (length v)
string_is [] r h = absurd h
string_is (x ∷ v) r h = rw (eq-eqb x 34 h.0, quoted_end_is v r h.1) (ap Some (omega arith))

name_cut : (text : List ℕ) (n : ℕ) (t : Bool) → cond t (string_len text) (run_len is_name_byte text) ≡ Some n → Cuts IsName text n
name_cut text n true e = let cuts = greedy-string.fits text n e in record { front = cuts.front; rest = cuts.rest; cut = cuts.cut; long = cuts.long; spelled = inr cuts.spelled }
name_cut text n false e = let cuts = (greedy-run is_name_byte).fits text n e in record { front = cuts.front; rest = cuts.rest; cut = cuts.cut; long = cuts.long; spelled = inl cuts.spelled }

name_of_run : (v r : List ℕ) → IsRun is_name_byte v → name_len (v ++ r) ≡ run_len is_name_byte (v ++ r)
name_of_run [] r h = absurd h
name_of_run (x ∷ v) r h = rw (no_quote x h.0) refl

name_of_string : (v r : List ℕ) → IsString v → name_len (v ++ r) ≡ string_len (v ++ r)
name_of_string [] r h = absurd h
name_of_string (x ∷ v) r h = rw (eq-eqb x 34 h.0) refl

name-finds : (v r : List ℕ) → IsName v → Finds (name_len (v ++ r)) (length v)
name-finds v r (inl h) = rw (name_of_run v r h) ((greedy-run is_name_byte).finds v r h)
name-finds v r (inr h) = rw (name_of_string v r h) (greedy-string.finds v r h)

pub greedy-name : Greedy IsName name_len
greedy-name = record { fits = λ text n e. name_cut text n _ e; finds = name-finds }

pub name_is : (v r : List ℕ) → IsName v → Stops is_name_byte r → name_len (v ++ r) ≡ Some (length v)
name_is v r (inl h) s =
    let count : run_len is_name_byte (v ++ r) ≡ Some (length v) = rw (prefix_len-stopped is_name_byte v r (IsRun-Passes _ v h) s) (positive_is (length v) (IsRun-long _ v h)) in
    name_of_run v r h ∙ count
name_is v r (inr h) s = name_of_string v r h ∙ string_is v r h

-- a label: a name, and a colon directly after it
abbrev pub IsLabel : List ℕ → Type 0
IsLabel w = (name : List ℕ) × (w ≡ name ++ 58 ∷ []) × IsName name

label_at : (text front rest : List ℕ) (n : ℕ) → text ≡ front ++ rest → IsName front → begins_by (λ b. b == 58) rest ≡ true → length front + 1 ≡ n → Cuts IsLabel text n
label_at text front [] n e h t l = absurd (cc)
label_at text front (x ∷ r) n e h t l = record {
  front = front ++ x ∷ [];
  rest = r;
  cut = e ∙ sym (append_assoc front (x ∷ []) r);
  long = simp length-append (omega (arith, l));
  spelled = (front, ap (λ b. front ++ b ∷ []) (eqb-true x 58 t), h);
}

label_cut : (text : List ℕ) (n : ℕ) (o : Option ℕ) → name_len text ≡ o → option_and_then (colon_len text) o ≡ Some n → Cuts IsLabel text n
label_cut text n None is e = absurd (cc)
label_cut text n (Some m) is e =
    let cuts = greedy-name.fits text m is in
    let here : (begins_by (λ b. b == 58) (drop m text) ≡ true) × (Some (m + 1) ≡ Some n) = if_some _ _ n e in
    let behind : drop m text ≡ cuts.rest = ap (drop m) cuts.cut ∙ drop_at cuts.front cuts.rest m cuts.long in
    label_at text cuts.front cuts.rest n cuts.cut cuts.spelled (rw behind at here.0) (omega (arith, cuts.long, some_is _ _ here.1))

label-finds : (v r : List ℕ) → IsLabel v → Finds (label_len (v ++ r)) (length v)
label-finds v r h =
    let whole : v ++ r ≡ h.0 ++ (58 ∷ r) = rw h.1 (append_assoc h.0 (58 ∷ []) r) in
    let named : name_len (h.0 ++ (58 ∷ r)) ≡ Some (length h.0) = name_is h.0 (58 ∷ r) h.2 colon_stops in
    let found : label_len (h.0 ++ (58 ∷ r)) ≡ Some (length h.0 + 1) = rw (named, drop-append_seam) refl in
    record { count = length h.0 + 1; is = rw whole found; enough = rw h.1 (simp length-append (omega arith)) }

pub greedy-label : Greedy IsLabel label_len
greedy-label = record { fits = λ text n e. label_cut text n (name_len text) refl e; finds = label-finds }
