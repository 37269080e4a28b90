unfoldable pub use Rattle.ir_words.specs.Digits.{is_digit}
use Rattle.std.specs.Prelude.{ℕ, Bool, ◌==◌, ◌||◌, not}
use Rattle.std.specs.Char.{is_ascii_alphabetic, is_ascii_digit}

-- a byte of a name without quotes: a letter, a digit, `$`, `.`, `_` or `-`
unfoldable pub is_name_byte : ℕ → Bool
is_name_byte b = is_ascii_alphabetic b || is_ascii_digit b || (b == 36) || (b == 46) || (b == 95) || (b == 45)

-- a byte that a word begins with: a letter, `$`, `.` or `_`
unfoldable pub is_word_start : ℕ → Bool
is_word_start b = is_ascii_alphabetic b || (b == 36) || (b == 46) || (b == 95)

-- a byte that may follow `!` in a token: a byte of a name, or a backslash
unfoldable pub is_meta_byte : ℕ → Bool
is_meta_byte b = is_name_byte b || (b == 92)

-- `=`, `,`, `(`, `)`, `[`, `]`, `{`, `}`, `<`, `>`, `*` or `|`
unfoldable pub is_punct : ℕ → Bool
is_punct b =
    (b == 61) || (b == 44) || (b == 40) || (b == 41) || (b == 91) || (b == 93)
    || (b == 123) || (b == 125) || (b == 60) || (b == 62) || (b == 42) || (b == 124)

-- a space, a tab, a carriage return or a line feed
unfoldable pub is_blank : ℕ → Bool
is_blank b = (b == 32) || (b == 9) || (b == 13) || (b == 10)

-- `+` or `-`
unfoldable pub is_sign : ℕ → Bool
is_sign b = (b == 43) || (b == 45)

-- `e` or `E`
unfoldable pub is_exponent_mark : ℕ → Bool
is_exponent_mark b = (b == 101) || (b == 69)

-- any byte but `"`
unfoldable pub is_not_quote : ℕ → Bool
is_not_quote b = not (b == 34)

-- any byte but a line feed
unfoldable pub is_not_line_feed : ℕ → Bool
is_not_line_feed b = not (b == 10)
