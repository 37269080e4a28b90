-- What the byte-by-byte lengths find, as parts of a text.
use Rattle.std.proofs.Common.{◌≡◌, ◌⊎◌, inl, inr, ℕ, suc, ◌+◌, ◌≤◌, ◌<◌, ◌==◌, Bool, true, false, cond, List, [], ◌∷◌, ◌++◌, length, Option, Some, None, refl, sym, ap, ◌∙◌, arith, nat_lt}
use Rattle.std.specs.Option.{option_map}
use Rattle.std.specs.List.{prefix_len}
use Rattle.std.proofs.lemmas.Bool.{eqb-true, eq-eqb}
use Rattle.std.proofs.lemmas.Bool.Decides.{nat_tests}
use Rattle.ir_lex.specs.Spelling.{Passes, IsRun, Stops, Follows, IsSigned}
pub use Rattle.ir_words.proofs.Runs.{CutsRun, run_of}
use Rattle.ir_lex.specs.Bytes.{is_sign}
use Rattle.ir_lex.specs.Lengths.{one_more, after_byte, after_sign, longer, positive, run_len}

-- a beginning of the text that is of L, n bytes long
pub record Cuts (L : List ℕ → Type 0) (text : List ℕ) (n : ℕ) : Type 0 where
  pub front : List ℕ
  pub rest : List ℕ
  pub cut : text ≡ front ++ rest
  pub long : length front ≡ n
  pub spelled : L front

-- a number is found that is no less than m
pub record Finds (found : Option ℕ) (m : ℕ) : Type 0 where
  pub count : ℕ
  pub is : found ≡ Some count
  pub enough : m ≤ count

-- what the piece finds is of L, and no shorter than any beginning that is of L
pub record Greedy (L : List ℕ → Type 0) (piece : List ℕ → Option ℕ) : Type 0 where
  pub fits : (text : List ℕ) (n : ℕ) → piece text ≡ Some n → Cuts L text n
  pub finds : (v r : List ℕ) → L v → Finds (piece (v ++ r)) (length v)

-- the answer of a piece says which branch was taken
pub if_some : {A : Type 0} (b : Bool) (o : Option A) (x : A) → cond b o None ≡ Some x → (b ≡ true) × (o ≡ Some x)
if_some true o x e = (refl, e)
if_some false o x e = absurd (cc)

pub unless_some : {A : Type 0} (b : Bool) (o : Option A) (x : A) → cond b None o ≡ Some x → (b ≡ false) × (o ≡ Some x)
unless_some true o x e = absurd (cc)
unless_some false o x e = (refl, e)

pub map_some : {A B : Type 0} (f : A → B) (o : Option A) (y : B) → option_map f o ≡ Some y → (x : A) × (o ≡ Some x) × (f x ≡ y)
map_some f None y e = absurd (cc)
map_some f (Some x) y e = (x, refl, cc)

pub some_is : {A : Type 0} (x y : A) → Some x ≡ Some y → x ≡ y
some_is x y e = cc

-- runs
pub prefix_len-Passes : (p : ℕ → Bool) (v r : List ℕ) → Passes p v → prefix_len p (v ++ r) ≡ length v + prefix_len p r
prefix_len-Passes p [] r h = omega arith
prefix_len-Passes p (b ∷ v) r h = rw h.0 (omega (arith, prefix_len-Passes p v r h.1))

pub prefix_len-Stops : (p : ℕ → Bool) (r : List ℕ) → Stops p r → prefix_len p r ≡ 0
prefix_len-Stops p [] h = refl
prefix_len-Stops p (b ∷ r) h = rw h refl

pub prefix_len-stopped : (p : ℕ → Bool) (v r : List ℕ) → Passes p v → Stops p r → prefix_len p (v ++ r) ≡ length v
prefix_len-stopped p v r h s = omega (arith, prefix_len-Passes p v r h, prefix_len-Stops p r s)

pub IsRun-Passes : (p : ℕ → Bool) (v : List ℕ) → IsRun p v → Passes p v
IsRun-Passes p [] h = absurd h
IsRun-Passes p (b ∷ v) h = h

pub IsRun-long : (p : ℕ → Bool) (v : List ℕ) → IsRun p v → 0 < length v
IsRun-long p [] h = absurd h
IsRun-long p (b ∷ v) h = omega arith

pub IsRun-from : (p : ℕ → Bool) (v : List ℕ) → Passes p v → 0 < length v → IsRun p v
IsRun-from p [] h l = absurd (omega arith)
IsRun-from p (b ∷ v) h l = h

pub above_zero : (n : ℕ) → 0 < n → (n == 0) ≡ false
above_zero n h = grind (arith, nat_tests)

pub not_zero : (n : ℕ) → (n == 0) ≡ false → 0 < n
not_zero n h = grind (arith, nat_tests)

pub positive_is : (n : ℕ) → 0 < n → positive n ≡ Some n
positive_is n h = rw (above_zero n h) refl

pub positive_some : (n m : ℕ) → positive n ≡ Some m → (n ≡ m) × (0 < n)
positive_some n m e =
    let here : ((n == 0) ≡ false) × (Some n ≡ Some m) = unless_some (n == 0) (Some n) m e in
    (some_is n m here.1, not_zero n here.0)

pub greedy-run : (p : ℕ → Bool) → Greedy (IsRun p) (run_len p)
greedy-run p = record {
  fits = λ text n e.
      let run = run_of p text in
      let found : (prefix_len p text ≡ n) × (0 < prefix_len p text) = positive_some _ _ e in
      record { front = run.front; rest = run.rest; cut = run.cut; long = run.long ∙ found.0; spelled = IsRun-from p run.front run.passes (omega (arith, run.long, found.1)) };
  finds = λ v r h.
      let count : prefix_len p (v ++ r) ≡ length v + prefix_len p r = prefix_len-Passes p v r (IsRun-Passes p v h) in
      record { count = prefix_len p (v ++ r); is = positive_is _ (omega (arith, count, IsRun-long p v h)); enough = omega (arith, count) };
}

-- a run that may be empty
pub greedy-passes : (p : ℕ → Bool) → Greedy (Passes p) (λ text. Some (prefix_len p text))
greedy-passes p = record {
  fits = λ text n e.
      let run = run_of p text in
      record { front = run.front; rest = run.rest; cut = run.cut; long = run.long ∙ some_is _ _ e; spelled = run.passes };
  finds = λ v r h. record { count = prefix_len p (v ++ r); is = refl; enough = omega (arith, prefix_len-Passes p v r h) };
}

-- a byte and then a piece
one_more-finds : (o : Option ℕ) (m : ℕ) → Finds o m → Finds (one_more o) (suc m)
one_more-finds o m f = record { count = f.count + 1; is = rw f.is refl; enough = omega (arith, f.enough) }

after_byte-fits : (b : ℕ) (L : List ℕ → Type 0) (piece : List ℕ → Option ℕ) → Greedy L piece → (text : List ℕ) (n : ℕ) → after_byte b piece text ≡ Some n → Cuts (Follows b L) text n
after_byte-fits b L piece g [] n e = absurd (cc)
after_byte-fits b L piece g (x ∷ xs) n e =
    let here : ((x == b) ≡ true) × (one_more (piece xs) ≡ Some n) = if_some (x == b) (one_more (piece xs)) n e in
    let inner : (m : ℕ) × (piece xs ≡ Some m) × (m + 1 ≡ n) = map_some (λ m. m + 1) (piece xs) n here.1 in
    let cuts = g.fits xs inner.0 inner.1 in
    record { front = x ∷ cuts.front; rest = cuts.rest; cut = ap (λ t. x ∷ t) cuts.cut; long = omega (arith, cuts.long, inner.2); spelled = (eqb-true x b here.0, cuts.spelled) }

after_byte-finds : (b : ℕ) (L : List ℕ → Type 0) (piece : List ℕ → Option ℕ) → Greedy L piece → (v r : List ℕ) → Follows b L v → Finds (after_byte b piece (v ++ r)) (length v)
after_byte-finds b L piece g [] r h = absurd h
after_byte-finds b L piece g (x ∷ v) r h =
    let same : (x == b) ≡ true = eq-eqb x b h.0 in
    rw same (one_more-finds _ _ (g.finds v r h.1))

pub greedy-after_byte : (b : ℕ) (L : List ℕ → Type 0) (piece : List ℕ → Option ℕ) → Greedy L piece → Greedy (Follows b L) (after_byte b piece)
greedy-after_byte b L piece g = record { fits = after_byte-fits b L piece g; finds = after_byte-finds b L piece g }

-- a sign and then a piece, or the piece alone, where the piece begins with no sign
Finds-le : (o : Option ℕ) (m n : ℕ) → n ≤ m → Finds o m → Finds o n
Finds-le o m n l f = record { count = f.count; is = f.is; enough = omega (arith, f.enough) }

after_sign-cut : (L : List ℕ → Type 0) (piece : List ℕ → Option ℕ) → Greedy L piece → (x : ℕ) (xs : List ℕ) (n : ℕ) (t : Bool) → is_sign x ≡ t
    → cond t (one_more (piece xs)) (piece (x ∷ xs)) ≡ Some n → Cuts (IsSigned L) (x ∷ xs) n
after_sign-cut L piece g x xs n true s e =
    let inner : (m : ℕ) × (piece xs ≡ Some m) × (m + 1 ≡ n) = map_some (λ m. m + 1) (piece xs) n e in
    let cuts = g.fits xs inner.0 inner.1 in
    record { front = x ∷ cuts.front; rest = cuts.rest; cut = ap (λ t. x ∷ t) cuts.cut; long = omega (arith, cuts.long, inner.2); spelled = inr (s, cuts.spelled) }
after_sign-cut L piece g x xs n false s e =
    let cuts = g.fits (x ∷ xs) n e in
    record { front = cuts.front; rest = cuts.rest; cut = cuts.cut; long = cuts.long; spelled = inl cuts.spelled }

after_sign-fits : (L : List ℕ → Type 0) (piece : List ℕ → Option ℕ) → Greedy L piece → (text : List ℕ) (n : ℕ) → after_sign piece text ≡ Some n → Cuts (IsSigned L) text n
after_sign-fits L piece g [] n e =
    let cuts = g.fits [] n e in
    record { front = cuts.front; rest = cuts.rest; cut = cuts.cut; long = cuts.long; spelled = inl cuts.spelled }
after_sign-fits L piece g (x ∷ xs) n e = after_sign-cut L piece g x xs n (is_sign x) refl e

-- the words of L are not empty and begin with no sign
abbrev pub BeginsUnsigned : (List ℕ → Type 0) → Type 0
BeginsUnsigned L = (v : List ℕ) → L v → (b : ℕ) × (more : List ℕ) × (v ≡ b ∷ more) × (is_sign b ≡ false)

after_sign-none : (piece : List ℕ → Option ℕ) (b : ℕ) (xs : List ℕ) → is_sign b ≡ false → after_sign piece (b ∷ xs) ≡ piece (b ∷ xs)
after_sign-none piece b xs e = rw e refl

after_sign-finds : (L : List ℕ → Type 0) (piece : List ℕ → Option ℕ) → Greedy L piece → BeginsUnsigned L → (v r : List ℕ) → IsSigned L v → Finds (after_sign piece (v ++ r)) (length v)
after_sign-finds L piece g unsigned v r (inl h) =
    let u = unsigned v h in
    let same : after_sign piece (v ++ r) ≡ piece (v ++ r) = rw u.2 (after_sign-none piece u.0 (u.1 ++ r) u.3) in
    rw same (g.finds v r h)
after_sign-finds L piece g unsigned [] r (inr h) = absurd h
after_sign-finds L piece g unsigned (x ∷ v) r (inr h) = rw h.0 (one_more-finds _ _ (g.finds v r h.1))

pub greedy-after_sign : (L : List ℕ → Type 0) (piece : List ℕ → Option ℕ) → Greedy L piece → BeginsUnsigned L → Greedy (IsSigned L) (after_sign piece)
greedy-after_sign L piece g u = record { fits = after_sign-fits L piece g; finds = after_sign-finds L piece g u }

-- the longer of two pieces
left : (L M : List ℕ → Type 0) (text : List ℕ) (n : ℕ) → Cuts L text n → Cuts (λ w. L w ⊎ M w) text n
left L M text n cuts = record { front = cuts.front; rest = cuts.rest; cut = cuts.cut; long = cuts.long; spelled = inl cuts.spelled }

right : (L M : List ℕ → Type 0) (text : List ℕ) (n : ℕ) → Cuts M text n → Cuts (λ w. L w ⊎ M w) text n
right L M text n cuts = record { front = cuts.front; rest = cuts.rest; cut = cuts.cut; long = cuts.long; spelled = inr cuts.spelled }

chosen : (m n x : ℕ) (t : Bool) → cond t (Some n) (Some m) ≡ Some x → (x ≡ n) ⊎ (x ≡ m)
chosen m n x true e = inl (cc)
chosen m n x false e = inr (cc)

longer-fits : (L M : List ℕ → Type 0) (text : List ℕ) (a b : Option ℕ) → ((n : ℕ) → a ≡ Some n → Cuts L text n) → ((n : ℕ) → b ≡ Some n → Cuts M text n)
    → (n : ℕ) → longer a b ≡ Some n → Cuts (λ w. L w ⊎ M w) text n
longer-fits L M text None b f g n e = right L M text n (g n e)
longer-fits L M text (Some m) None f g n e = left L M text n (f n e)
longer-fits L M text (Some m) (Some k) f g n e =
    elim (chosen m k n (nat_lt m k) e) [
      | inl i ↦ right L M text n (g n (ap Some (sym i)))
      | inr i ↦ left L M text n (f n (ap Some (sym i)))
    ]

longer_count : (m n : ℕ) → Finds (longer (Some m) (Some n)) m × Finds (longer (Some m) (Some n)) n
longer_count m n = by_test m n (nat_lt m n) refl
  where
    by_test : (m n : ℕ) (t : Bool) → nat_lt m n ≡ t → Finds (cond t (Some n) (Some m)) m × Finds (cond t (Some n) (Some m)) n
    by_test m n true e = (record { count = n; is = refl; enough = grind (arith, nat_tests) }, record { count = n; is = refl; enough = omega arith })
    by_test m n false e = (record { count = m; is = refl; enough = omega arith }, record { count = m; is = refl; enough = grind (arith, nat_tests) })

longer-left : (a b : Option ℕ) (m : ℕ) → Finds a m → Finds (longer a b) m
longer-left None b m f = absurd (let e : None ≡ Some f.count = f.is in cc)
longer-left (Some x) None m f = f
longer-left (Some x) (Some y) m f = let e : Some x ≡ Some f.count = f.is in let s : x ≡ f.count = some_is _ _ e in Finds-le _ _ _ (omega (arith, f.enough, s)) (longer_count x y).0

longer-right : (a b : Option ℕ) (m : ℕ) → Finds b m → Finds (longer a b) m
longer-right None b m f = f
longer-right (Some x) None m f = absurd (let e : None ≡ Some f.count = f.is in cc)
longer-right (Some x) (Some y) m f = let e : Some y ≡ Some f.count = f.is in let s : y ≡ f.count = some_is _ _ e in Finds-le _ _ _ (omega (arith, f.enough, s)) (longer_count x y).1

either-finds : (L M : List ℕ → Type 0) (p q : List ℕ → Option ℕ) → Greedy L p → Greedy M q → (v r : List ℕ) → L v ⊎ M v → Finds (longer (p (v ++ r)) (q (v ++ r))) (length v)
either-finds L M p q f g v r (inl h) = longer-left _ _ _ (f.finds v r h)
either-finds L M p q f g v r (inr h) = longer-right _ _ _ (g.finds v r h)

pub greedy-longer : (L M : List ℕ → Type 0) (p q : List ℕ → Option ℕ) → Greedy L p → Greedy M q → Greedy (λ w. L w ⊎ M w) (λ text. longer (p text) (q text))
greedy-longer L M p q f g = record {
  fits = λ text n e. longer-fits L M text (p text) (q text) (f.fits text) (g.fits text) n e;
  finds = either-finds L M p q f g;
}
