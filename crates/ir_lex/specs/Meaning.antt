-- What a token means: the bytes of its name, and what its word stands for.
use Rattle.std.specs.Prelude.{ℕ, Bool, ◌+◌, ◌-◌, ◌*◌, ◌==◌, ◌||◌, ◌&&◌, if◌then◌else◌, nat_lt, zero, suc, List, [], ◌∷◌, length, take, drop}
use Rattle.ir_lex.specs.Lengths.{begins_by}
use Rattle.ir_words.specs.Words.{keyword_of}
use Rattle.ir_lex.specs.declared.token.Token.{Token}
use Rattle.ir_lex.specs.declared.token.Kind.{Kind}
use Rattle.ir_lex.specs.declared.token.Kind.TheVariants.{Local, Global, CStr, Label, Word}
use Rattle.ir_words.specs.declared.words.Keyword.{Keyword}
use Rattle.ir_words.specs.declared.words.Keyword.TheVariants.{Other}

-- the bytes of a token, as they stand in the text
unfoldable pub spelling : List ℕ → Token → List ℕ
spelling text t = take (t.end - t.start) (drop t.start text)

-- a hexadecimal digit
abbrev pub is_hex : ℕ → Bool
is_hex b = (nat_lt 47 b && nat_lt b 58) || (nat_lt 64 b && nat_lt b 71) || (nat_lt 96 b && nat_lt b 103)

-- the number of a hexadecimal digit
abbrev pub hex_value : ℕ → ℕ
hex_value b = if nat_lt b 58 then b - 48 else (if nat_lt b 71 then b - 55 else b - 87)

-- the byte that `\` and two bytes spell, and how many bytes of the three spell it
abbrev pub hex_escape : ℕ → List ℕ → ℕ × ℕ
hex_escape b [] = (92, 1)
hex_escape b (c ∷ rest) = if is_hex b && is_hex c then (16 * hex_value b + hex_value c, 3) else (92, 1)

-- the byte that a list begins with, and how many bytes spell it: `\\` is a backslash, `\` and two hexadecimal digits are that byte, and any other byte is itself
unfoldable pub escape : List ℕ → ℕ × ℕ
escape [] = (0, 1)
escape (a ∷ []) = (a, 1)
escape (a ∷ b ∷ rest) = if a == 92 then (if b == 92 then (92, 2) else hex_escape b rest) else (a, 1)

-- the bytes that a list spells after its first `skip` bytes
unfoldable pub unescaped_after : ℕ → List ℕ → List ℕ
unescaped_after skip [] = []
unescaped_after zero (b ∷ bs) = (escape (b ∷ bs)).0 ∷ unescaped_after ((escape (b ∷ bs)).1 - 1) bs
unescaped_after (suc skip) (b ∷ bs) = unescaped_after skip bs

-- the bytes that a list spells
abbrev pub unescaped : List ℕ → List ℕ
unescaped = unescaped_after 0

-- a name without its quotes
abbrev pub unquoted : List ℕ → List ℕ
unquoted w = if begins_by (λ b. b == 34) w then take (length w - 2) (drop 1 w) else w

-- the bytes that spell the name of a local, a global or a label, without `%`, `@`, `:` and quotes
abbrev pub name_spelling : List ℕ → Token → List ℕ
name_spelling text t = by_kind t.kind (spelling text t)
  where
    by_kind : Kind → List ℕ → List ℕ
    by_kind Local w = unquoted (drop 1 w)
    by_kind Global w = unquoted (drop 1 w)
    by_kind Label w = unquoted (take (length w - 1) w)
    by_kind _ w = []

-- the bytes that spell those of a string after `c`, without `c` and quotes
abbrev pub text_spelling : List ℕ → Token → List ℕ
text_spelling text t = by_kind t.kind (spelling text t)
  where
    by_kind : Kind → List ℕ → List ℕ
    by_kind CStr w = unquoted (drop 1 w)
    by_kind _ w = []

-- the name of a local, a global or a label
abbrev pub name_of : List ℕ → Token → List ℕ
name_of text t = unescaped (name_spelling text t)

-- what the word of a token stands for
abbrev pub word_of : List ℕ → Token → Keyword
word_of text t = of_kind t.kind (spelling text t)
  where
    of_kind : Kind → List ℕ → Keyword
    of_kind Word w = keyword_of w
    of_kind _ w = Other
