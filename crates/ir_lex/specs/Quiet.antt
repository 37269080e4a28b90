-- What is left of a token list once attributes, notes and what else changes no meaning are dropped, by seven rules in order.
use Rattle.std.specs.Prelude.{◌≡◌, ℕ, Bool, true, false, ◌+◌, ◌-◌, ◌==◌, ◌&&◌, ◌||◌, not, if◌then◌else◌, zero, suc, List, [], ◌∷◌, length, take, Option, Some, None, is_some, unwrap_or, codes}
use Rattle.std.specs.List.{prefix_len}
use Rattle.std.specs.Str.{bytes_eq}
use Rattle.ir_lex.specs.Lengths.{begins_by, one_more}
use Rattle.ir_words.specs.Words.{keyword_of, is_header, is_caller, is_align, is_comdat, is_group_word, is_quiet_word, is_outside_word}
use Rattle.ir_lex.specs.Meaning.{spelling, word_of, name_of}
use Rattle.ir_lex.specs.Names.{is_note_name}
use Rattle.ir_lex.specs.declared.error.LexError.{LexError}
use Rattle.ir_lex.specs.declared.error.LexError.TheVariants.{Bad, Outside, OutOfMemory}
use Rattle.ir_lex.specs.declared.token.Token.{Token}
use Rattle.ir_lex.specs.declared.token.Kind.{Kind}
use Rattle.ir_lex.specs.declared.token.Kind.TheVariants.{Global, Int, Word, Meta, Hash, Punct}
use Rattle.ir_lex.specs.declared.phrases.Rule.{Rule}
use Rattle.ir_lex.specs.declared.phrases.Rule.TheVariants.{HeaderLines, NoteLines, MetaPairs, Alignments, Hashes, Groups, QuietWords}

abbrev pub is_meta : Kind → Bool
is_meta Meta = true
is_meta _ = false

abbrev pub is_hash : Kind → Bool
is_hash Hash = true
is_hash _ = false

abbrev pub is_int : Kind → Bool
is_int Int = true
is_int _ = false

abbrev pub is_global : Kind → Bool
is_global Global = true
is_global _ = false

abbrev pub is_punctuation : Kind → Bool
is_punctuation Punct = true
is_punctuation _ = false

-- the token is this byte of punctuation
abbrev pub is_byte : List ℕ → ℕ → Token → Bool
is_byte text b t = is_punctuation t.kind && begins_by (λ x. x == b) (spelling text t)

-- a token goes on with the line of the token before it
abbrev pub continues : Token → Bool
continues t = not t.first

-- the tokens up to the end of the line
abbrev pub rest_of_line : List Token → List Token
rest_of_line toks = take (prefix_len continues toks) toks

-- how many tokens a line has, by those after its first one
abbrev pub line_len : List Token → ℕ
line_len toks = length (rest_of_line toks) + 1

-- rule 1: a line whose first token is a word of headers, a word that begins with `$`, a meta, or a hash that begins with `#dbg_`
abbrev pub begins_header : List ℕ → Token → Bool
begins_header text t = by_kind t.kind (spelling text t)
  where
    by_kind : Kind → List ℕ → Bool
    by_kind Word w = is_header (keyword_of w) || begins_by (λ b. b == 36) w
    by_kind Meta w = true
    by_kind Hash w = bytes_eq (codes "#dbg_") (take 5 w)
    by_kind _ w = false

abbrev pub header_line : List ℕ → List Token → Option ℕ
header_line text [] = None
header_line text (t ∷ toks) = if t.first && begins_header text t then Some (line_len toks) else None

-- rule 2: a line whose first token is `declare` or a word of calls, and whose first global is a note to the optimizer
abbrev pub names_note : List ℕ → List Token → Bool
names_note text [] = false
names_note text (t ∷ toks) = if is_global t.kind then is_note_name (name_of text t) else names_note text toks

abbrev pub note_line : List ℕ → List Token → Option ℕ
note_line text [] = None
note_line text (t ∷ toks) = if t.first && (is_caller (word_of text t) && names_note text (rest_of_line toks)) then Some (line_len toks) else None

-- a phrase, and a comma directly before it
abbrev pub and_comma : List ℕ → (List Token → Option ℕ) → List Token → Option ℕ
and_comma text phrase [] = None
and_comma text phrase (t ∷ toks) = if is_byte text 44 t then one_more (phrase toks) else phrase (t ∷ toks)

-- rule 3: two metas in a row
abbrev pub meta_pair : List Token → Option ℕ
meta_pair [] = None
meta_pair (t ∷ []) = None
meta_pair (t ∷ u ∷ toks) = if is_meta t.kind && is_meta u.kind then Some 2 else None

-- how many tokens there are up to the parenthesis that closes the group, with `depth` others open in it, or to the end
abbrev pub closing_len : List ℕ → ℕ → List Token → ℕ
closing_len text depth [] = 0
closing_len text depth (t ∷ toks) =
    if is_byte text 40 t then closing_len text (depth + 1) toks + 1
    else (if is_byte text 41 t then (if depth == 0 then 1 else closing_len text (depth - 1) toks + 1) else closing_len text depth toks + 1)

-- a group: from `(` to its `)`, or to the end
abbrev pub group_len : List ℕ → List Token → Option ℕ
group_len text [] = None
group_len text (t ∷ toks) = if is_byte text 40 t then Some (closing_len text 0 toks + 1) else None

-- an integer, or a group
abbrev pub amount_len : List ℕ → List Token → Option ℕ
amount_len text [] = None
amount_len text (t ∷ toks) = if is_int t.kind then Some 1 else group_len text (t ∷ toks)

-- rule 4: `align` with an integer or a group
abbrev pub alignment : List ℕ → List Token → Option ℕ
alignment text [] = None
alignment text (t ∷ toks) = if is_align (word_of text t) then one_more (amount_len text toks) else None

-- rule 5: a hash
abbrev pub hash_token : List Token → Option ℕ
hash_token [] = None
hash_token (t ∷ toks) = if is_hash t.kind then Some 1 else None

-- rule 6: a group word, with a group that directly follows it; `comdat` with a comma directly before it
abbrev pub word_and_group : List ℕ → List Token → Option ℕ
word_and_group text toks = Some (unwrap_or (group_len text toks) 0 + 1)

abbrev pub comdat_phrase : List ℕ → List Token → Option ℕ
comdat_phrase text [] = None
comdat_phrase text (t ∷ toks) = if is_comdat (word_of text t) then word_and_group text toks else None

abbrev pub group_phrase : List ℕ → List Token → Option ℕ
group_phrase text [] = None
group_phrase text (t ∷ toks) =
    if is_byte text 44 t then one_more (comdat_phrase text toks)
    else (if is_group_word (word_of text t) then word_and_group text toks else None)

-- rule 7: a quiet word
abbrev pub quiet_word : List ℕ → List Token → Option ℕ
quiet_word text [] = None
quiet_word text (t ∷ toks) = if is_quiet_word (word_of text t) then Some 1 else None

-- how many tokens there are of what the rule drops, where a list begins with it
unfoldable pub phrase_len : List ℕ → Rule → List Token → Option ℕ
phrase_len text HeaderLines toks = header_line text toks
phrase_len text NoteLines toks = note_line text toks
phrase_len text MetaPairs toks = and_comma text meta_pair toks
phrase_len text Alignments toks = and_comma text (alignment text) toks
phrase_len text Hashes toks = hash_token toks
phrase_len text Groups toks = group_phrase text toks
phrase_len text QuietWords toks = quiet_word text toks

-- what is left after the first `skip` tokens, once each phrase is dropped, from left to right
unfoldable pub left_after : (List Token → Option ℕ) → ℕ → List Token → List Token
left_after phrase skip [] = []
left_after phrase zero (t ∷ toks) =
    if is_some (phrase (t ∷ toks)) then left_after phrase (unwrap_or (phrase (t ∷ toks)) 1 - 1) toks
    else t ∷ left_after phrase 0 toks
left_after phrase (suc skip) (t ∷ toks) = left_after phrase skip toks

-- what a rule leaves
abbrev pub without : List ℕ → Rule → List Token → List Token
without text rule toks = left_after (phrase_len text rule) 0 toks

-- the tokens that are kept: what the seven rules leave, one after another
abbrev pub kept_of : List ℕ → List Token → List Token
kept_of text toks =
    without text QuietWords (without text Groups (without text Hashes (without text Alignments
    (without text MetaPairs (without text NoteLines (without text HeaderLines toks))))))

-- a word that is outside the language
abbrev pub is_outside : List ℕ → Token → Bool
is_outside text t = is_outside_word (word_of text t)

-- the place and the length of the first kept token that is outside the language
abbrev pub first_outside : List ℕ → List Token → Option (ℕ × ℕ)
first_outside text [] = None
first_outside text (t ∷ toks) = if is_outside text t then Some (t.start, length (spelling text t)) else first_outside text toks

-- what each refusal says: `Outside` names the first kept token that is outside the language, and memory may run out anywhere
abbrev pub RefusesKept : List ℕ → List Token → LexError → Type 0
RefusesKept text kept (Bad at) = ⊥
RefusesKept text kept (Outside at len) = first_outside text kept ≡ Some (at, len)
RefusesKept text kept OutOfMemory = Unit {0}
