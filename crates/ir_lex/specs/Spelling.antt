use Rattle.std.specs.Prelude.{◌≡◌, ◌⊎◌, ℕ, Bool, true, ◌+◌, ◌^◌, ◌<◌, List, [], ◌∷◌, ◌++◌}
use Rattle.std.specs.Str.Parse.{digits_value}
pub use Rattle.ir_words.specs.Digits.{Passes, Stops}
use Rattle.ir_lex.specs.Bytes.{is_digit, is_name_byte, is_word_start, is_meta_byte, is_punct, is_sign, is_exponent_mark, is_not_quote}
use Rattle.ir_lex.specs.declared.token.Kind.{Kind}
use Rattle.ir_lex.specs.declared.token.Kind.TheVariants.{Local, Global, CStr, Label, Str, Float, Int, Word, Meta, Hash, Punct}

-- one or more bytes, each of which passes the test
abbrev pub IsRun : (ℕ → Bool) → List ℕ → Type 0
IsRun p [] = ⊥
IsRun p (b ∷ bs) = (p b ≡ true) × Passes p bs

-- this byte, and then such a list
abbrev pub Follows : ℕ → (List ℕ → Type 0) → List ℕ → Type 0
Follows b L [] = ⊥
Follows b L (x ∷ xs) = (x ≡ b) × L xs

-- such a list after a byte that passes the test
abbrev pub Behind : (ℕ → Bool) → (List ℕ → Type 0) → List ℕ → Type 0
Behind p L [] = ⊥
Behind p L (x ∷ xs) = (p x ≡ true) × L xs

-- such a list, with a sign before it or without
abbrev pub IsSigned : (List ℕ → Type 0) → List ℕ → Type 0
IsSigned L w = L w ⊎ Behind is_sign L w

-- bytes but quotes, and then a quote
abbrev pub IsQuotedEnd : List ℕ → Type 0
IsQuotedEnd w = (body : List ℕ) × (w ≡ body ++ 34 ∷ []) × Passes is_not_quote body

-- a string: a quote, bytes but quotes, and a quote
abbrev pub IsString : List ℕ → Type 0
IsString = Follows 34 IsQuotedEnd

-- a name: bytes of names, or a string
abbrev pub IsName : List ℕ → Type 0
IsName w = IsRun is_name_byte w ⊎ IsString w

-- nothing, or `e` or `E`, an optional sign and digits
abbrev pub IsExponent : List ℕ → Type 0
IsExponent [] = Unit {0}
IsExponent (b ∷ bs) = (is_exponent_mark b ≡ true) × IsSigned (IsRun is_digit) bs

-- digits, a point, digits or none, and an optional exponent
pub record IsFraction (w : List ℕ) : Type 0 where
  pub whole : List ℕ
  pub part : List ℕ
  pub exponent : List ℕ
  pub spelled : w ≡ whole ++ (46 ∷ (part ++ exponent))
  pub digits : IsRun is_digit whole
  pub decimals : Passes is_digit part
  pub power : IsExponent exponent

-- digits of a number below the limit
abbrev pub IsNumberBelow : ℕ → List ℕ → Type 0
IsNumberBelow limit w = IsRun is_digit w × (digits_value 10 w < limit)

-- how a token of each kind is spelled
abbrev pub Spelled : Kind → List ℕ → Type 0
Spelled Local w = Follows 37 IsName w
Spelled Global w = Follows 64 IsName w
Spelled CStr w = Follows 99 IsString w
Spelled Label w = (name : List ℕ) × (w ≡ name ++ 58 ∷ []) × IsName name
Spelled Str w = IsString w
Spelled Float w = Follows 48 (Follows 120 (IsRun is_name_byte)) w ⊎ IsSigned IsFraction w
Spelled Int w = IsNumberBelow (2 ^ 127) w ⊎ Follows 45 (IsNumberBelow (2 ^ 127 + 1)) w
Spelled Word [] = ⊥
Spelled Word (b ∷ bs) = (is_word_start b ≡ true) × Passes is_name_byte bs
Spelled Meta w = Follows 33 (Passes is_meta_byte) w
Spelled Hash w = Follows 35 (IsRun is_name_byte) w
Spelled Punct [] = ⊥
Spelled Punct (b ∷ bs) = (is_punct b ≡ true) × (bs ≡ [])

-- what may follow a token of each kind: an integer is not followed by a byte of a name
abbrev pub MayPrecede : Kind → List ℕ → Type 0
MayPrecede Int rest = Stops is_name_byte rest
MayPrecede Local rest = Unit {0}
MayPrecede Global rest = Unit {0}
MayPrecede CStr rest = Unit {0}
MayPrecede Label rest = Unit {0}
MayPrecede Str rest = Unit {0}
MayPrecede Float rest = Unit {0}
MayPrecede Word rest = Unit {0}
MayPrecede Meta rest = Unit {0}
MayPrecede Hash rest = Unit {0}
MayPrecede Punct rest = Unit {0}
