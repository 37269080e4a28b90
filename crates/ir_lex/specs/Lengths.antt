-- How long the token of each kind is that a text begins with, found byte by byte.
use Rattle.std.specs.Prelude.{◌≡◌, ◌<◌, ℕ, Bool, false, ◌+◌, ◌^◌, ◌==◌, nat_lt, if◌then◌else◌, List, [], ◌∷◌, length, take, drop, Option, Some, None, unwrap_or, option_and_then}
use Rattle.std.specs.Option.{option_map}
use Rattle.std.specs.List.{prefix_len}
use Rattle.std.specs.Str.Parse.{digits_value}
use Rattle.ir_lex.specs.Bytes.{is_digit, is_name_byte, is_word_start, is_meta_byte, is_punct, is_sign, is_exponent_mark, is_not_quote, is_blank, is_not_line_feed}
use Rattle.ir_lex.specs.declared.token.Kind.{Kind}
use Rattle.ir_lex.specs.declared.token.Kind.TheVariants.{Local, Global, CStr, Label, Str, Float, Int, Word, Meta, Hash, Punct}

-- whether the first byte passes the test
abbrev pub begins_by : (ℕ → Bool) → List ℕ → Bool
begins_by p [] = false
begins_by p (b ∷ bs) = p b

-- one byte more
abbrev pub one_more : Option ℕ → Option ℕ
one_more = option_map (λ n. n + 1)

-- this byte, and then what the piece finds
abbrev pub after_byte : ℕ → (List ℕ → Option ℕ) → List ℕ → Option ℕ
after_byte b piece [] = None
after_byte b piece (x ∷ xs) = if x == b then one_more (piece xs) else None

-- what the piece finds, after a sign or without one
abbrev pub after_sign : (List ℕ → Option ℕ) → List ℕ → Option ℕ
after_sign piece [] = piece []
after_sign piece (x ∷ xs) = if is_sign x then one_more (piece xs) else piece (x ∷ xs)

-- the longer of two pieces, where both are there
abbrev pub longer : Option ℕ → Option ℕ → Option ℕ
longer None b = b
longer (Some m) None = Some m
longer (Some m) (Some n) = if nat_lt m n then Some n else Some m

-- a number but 0
abbrev pub positive : ℕ → Option ℕ
positive n = if n == 0 then None else Some n

-- one or more bytes that pass the test
abbrev pub run_len : (ℕ → Bool) → List ℕ → Option ℕ
run_len p text = positive (prefix_len p text)

-- bytes but quotes, and then a quote
abbrev pub quoted_end_len : List ℕ → Option ℕ
quoted_end_len text = if prefix_len is_not_quote text == length text then None else Some (prefix_len is_not_quote text + 1)

abbrev pub string_len : List ℕ → Option ℕ
string_len = after_byte 34 quoted_end_len

abbrev pub name_len : List ℕ → Option ℕ
name_len text = if begins_by (λ b. b == 34) text then string_len text else run_len is_name_byte text

-- a colon after the name
abbrev pub colon_len : List ℕ → ℕ → Option ℕ
colon_len text n = if begins_by (λ b. b == 58) (drop n text) then Some (n + 1) else None

abbrev pub label_len : List ℕ → Option ℕ
label_len text = option_and_then (colon_len text) (name_len text)

-- an optional sign and digits
abbrev pub signed_digits_len : List ℕ → Option ℕ
signed_digits_len = after_sign (run_len is_digit)

-- an exponent, or nothing
abbrev pub exponent_len : List ℕ → ℕ
exponent_len [] = 0
exponent_len (b ∷ bs) = if is_exponent_mark b then unwrap_or (one_more (signed_digits_len bs)) 0 else 0

-- what follows the point of a float: digits or none, and an optional exponent
abbrev pub decimals_len : List ℕ → ℕ
decimals_len text = prefix_len is_digit text + exponent_len (drop (prefix_len is_digit text) text)

-- digits, a point and what follows it
abbrev pub fraction_len : List ℕ → Option ℕ
fraction_len text =
    if prefix_len is_digit text == 0 then None
    else option_map (λ n. prefix_len is_digit text + n) (after_byte 46 (λ rest. Some (decimals_len rest)) (drop (prefix_len is_digit text) text))

abbrev pub hexadecimal_len : List ℕ → Option ℕ
hexadecimal_len = after_byte 48 (after_byte 120 (run_len is_name_byte))

abbrev pub float_len : List ℕ → Option ℕ
float_len text = longer (hexadecimal_len text) (after_sign fraction_len text)

-- whether the first n bytes are the digits of a number below the limit, and no byte of a name follows them
abbrev pub is_number_below : ℕ → ℕ → List ℕ → Bool
is_number_below limit n text = if begins_by is_name_byte (drop n text) then false else nat_lt (digits_value 10 (take n text)) limit

-- digits of a number below the limit, which no byte of a name follows
abbrev pub number_len : ℕ → List ℕ → Option ℕ
number_len limit text =
    if prefix_len is_digit text == 0 then None
    else (if is_number_below limit (prefix_len is_digit text) text then Some (prefix_len is_digit text) else None)

abbrev pub integer_len : List ℕ → Option ℕ
integer_len text = if begins_by (λ b. b == 45) text then after_byte 45 (number_len (2 ^ 127 + 1)) text else number_len (2 ^ 127) text

abbrev pub word_len : List ℕ → Option ℕ
word_len [] = None
word_len (b ∷ bs) = if is_word_start b then Some (prefix_len is_name_byte bs + 1) else None

abbrev pub punct_len : List ℕ → Option ℕ
punct_len [] = None
punct_len (b ∷ bs) = if is_punct b then Some 1 else None

-- the length of the token of a kind
unfoldable pub length_of : Kind → List ℕ → Option ℕ
length_of Local text = after_byte 37 name_len text
length_of Global text = after_byte 64 name_len text
length_of CStr text = after_byte 99 string_len text
length_of Label text = label_len text
length_of Str text = string_len text
length_of Float text = float_len text
length_of Int text = integer_len text
length_of Word text = word_len text
length_of Meta text = after_byte 33 (λ rest. Some (prefix_len is_meta_byte rest)) text
length_of Hash text = after_byte 35 (run_len is_name_byte) text
length_of Punct text = punct_len text

-- the token of this kind, or else what the later kinds find
abbrev pub or_later : Kind → Option ℕ → Option (Kind × ℕ) → Option (Kind × ℕ)
or_later k None later = later
or_later k (Some n) later = Some (k, n)

-- the kind and the length of the token that a text begins with, by the first rule that fits
abbrev pub first_token : List ℕ → Option (Kind × ℕ)
first_token text =
    or_later Local (length_of Local text) (or_later Global (length_of Global text) (or_later CStr (length_of CStr text)
    (or_later Label (length_of Label text) (or_later Str (length_of Str text) (or_later Float (length_of Float text)
    (or_later Int (length_of Int text) (or_later Word (length_of Word text) (or_later Meta (length_of Meta text)
    (or_later Hash (length_of Hash text) (or_later Punct (length_of Punct text) None))))))))))

-- the length of a blank or a comment
abbrev pub gap_len : List ℕ → Option ℕ
gap_len [] = None
gap_len (b ∷ bs) = if is_blank b then Some 1 else (if b == 59 then Some (prefix_len is_not_line_feed bs + 1) else None)

-- no label begins at any of the first n bytes
abbrev pub NoLabels : ℕ → List ℕ → Type 0
NoLabels n text = (k : ℕ) → k < n → label_len (drop k text) ≡ None
