-- The length of each kind is that of the longest beginning that its rule fits.
use Rattle.std.proofs.Common.{◌≡◌, ℕ, ◌+◌, true, List, [], ◌∷◌, ◌++◌, length, Some, refl, ap, arith}
use Rattle.std.specs.List.{prefix_len}
use Rattle.ir_lex.specs.Bytes.{is_name_byte, is_word_start, is_meta_byte, is_punct}
use Rattle.ir_lex.specs.Spelling.{Passes, IsRun, Follows, IsName, IsString, Spelled, MayPrecede}
use Rattle.ir_lex.specs.Tokens.{Fits}
use Rattle.ir_lex.specs.Lengths.{after_byte, run_len, name_len, string_len, word_len, punct_len, length_of}
use Rattle.ir_lex.specs.declared.token.Kind.{Kind}
use Rattle.ir_lex.specs.declared.token.Kind.TheVariants.{Local, Global, CStr, Label, Str, Float, Int, Word, Meta, Hash, Punct}
use Rattle.ir_lex.proofs.Pieces.{Cuts, Finds, Greedy, run_of, prefix_len-Passes, if_some, some_is, greedy-run, greedy-passes, greedy-after_byte}
use Rattle.ir_lex.proofs.Strings.{greedy-string, greedy-name, greedy-label}
use Rattle.ir_lex.proofs.Integers.{CutsOff, integer_cut, integer_is}
use Rattle.ir_lex.proofs.Floats.{greedy-float}

word-cut : (text : List ℕ) (n : ℕ) → word_len text ≡ Some n → Cuts (Spelled Word) text n
word-cut [] n e = absurd (cc)
word-cut (b ∷ bs) n e =
    let run = run_of is_name_byte bs in
    let here : (is_word_start b ≡ true) × (Some (prefix_len is_name_byte bs + 1) ≡ Some n) = if_some (is_word_start b) _ n e in
    record { front = b ∷ run.front; rest = run.rest; cut = ap (λ t. b ∷ t) run.cut; long = omega (arith, run.long, some_is _ _ here.1); spelled = (here.0, run.passes) }

word-finds : (v r : List ℕ) → Spelled Word v → Finds (word_len (v ++ r)) (length v)
word-finds [] r h = absurd h
word-finds (b ∷ v) r h = record { count = prefix_len is_name_byte (v ++ r) + 1; is = rw h.0 refl; enough = omega (arith, prefix_len-Passes is_name_byte v r h.1) }

punct-cut : (text : List ℕ) (n : ℕ) → punct_len text ≡ Some n → Cuts (Spelled Punct) text n
punct-cut [] n e = absurd (cc)
punct-cut (b ∷ bs) n e =
    let here : (is_punct b ≡ true) × (Some 1 ≡ Some n) = if_some (is_punct b) (Some 1) n e in
    record { front = b ∷ []; rest = bs; cut = refl; long = omega (arith, some_is _ _ here.1); spelled = (here.0, refl) }

punct-finds : (v r : List ℕ) → Spelled Punct v → Finds (punct_len (v ++ r)) (length v)
punct-finds [] r h = absurd h
punct-finds (b ∷ v) r h = record { count = 1; is = rw h.0 refl; enough = omega (arith, ap length h.1) }

-- the token of this kind that a text begins with is n bytes long
pub record FitsAt (k : Kind) (text : List ℕ) (n : ℕ) : Type 0 where
  pub front : List ℕ
  pub rest : List ℕ
  pub fits : Fits k text front rest
  pub long : length front ≡ n

plain : (k : Kind) (text : List ℕ) (n : ℕ) → ((rest : List ℕ) → MayPrecede k rest) → Cuts (Spelled k) text n → FitsAt k text n
plain k text n free cuts = record { front = cuts.front; rest = cuts.rest; fits = record { cut = cuts.cut; spelled = cuts.spelled; before = free cuts.rest }; long = cuts.long }

named : (b : ℕ) → Greedy (Follows b IsName) (after_byte b name_len)
named b = greedy-after_byte b IsName name_len greedy-name

metas : Greedy (Follows 33 (Passes is_meta_byte)) (after_byte 33 (λ rest. Some (prefix_len is_meta_byte rest)))
metas = greedy-after_byte 33 _ _ (greedy-passes is_meta_byte)

hashes : Greedy (Follows 35 (IsRun is_name_byte)) (after_byte 35 (run_len is_name_byte))
hashes = greedy-after_byte 35 _ _ (greedy-run is_name_byte)

strings : Greedy (Follows 99 IsString) (after_byte 99 string_len)
strings = greedy-after_byte 99 _ _ greedy-string

integer-fits : (text : List ℕ) (n : ℕ) → CutsOff (Spelled Int) text n → FitsAt Int text n
integer-fits text n cuts = record { front = cuts.front; rest = cuts.rest; fits = record { cut = cuts.cut; spelled = cuts.spelled; before = cuts.stops }; long = cuts.long }

pub rule_fits : (k : Kind) (text : List ℕ) (n : ℕ) → length_of k text ≡ Some n → FitsAt k text n
unfolding length_of
rule_fits Local text n e = plain Local text n (λ _. tt) ((named 37).fits text n e)
rule_fits Global text n e = plain Global text n (λ _. tt) ((named 64).fits text n e)
rule_fits CStr text n e = plain CStr text n (λ _. tt) (strings.fits text n e)
rule_fits Label text n e = plain Label text n (λ _. tt) (greedy-label.fits text n e)
rule_fits Str text n e = plain Str text n (λ _. tt) (greedy-string.fits text n e)
rule_fits Float text n e = plain Float text n (λ _. tt) (greedy-float.fits text n e)
rule_fits Int text n e = integer-fits text n (integer_cut text n e)
rule_fits Word text n e = plain Word text n (λ _. tt) (word-cut text n e)
rule_fits Meta text n e = plain Meta text n (λ _. tt) (metas.fits text n e)
rule_fits Hash text n e = plain Hash text n (λ _. tt) (hashes.fits text n e)
rule_fits Punct text n e = plain Punct text n (λ _. tt) (punct-cut text n e)

rule_finds_in : (k : Kind) (v r : List ℕ) → Spelled k v → MayPrecede k r → Finds (length_of k (v ++ r)) (length v)
unfolding length_of
rule_finds_in Local v r h b = (named 37).finds v r h
rule_finds_in Global v r h b = (named 64).finds v r h
rule_finds_in CStr v r h b = strings.finds v r h
rule_finds_in Label v r h b = greedy-label.finds v r h
rule_finds_in Str v r h b = greedy-string.finds v r h
rule_finds_in Float v r h b = greedy-float.finds v r h
rule_finds_in Int v r h b = record { count = length v; is = integer_is v r h b; enough = omega arith }
rule_finds_in Word v r h b = word-finds v r h
rule_finds_in Meta v r h b = metas.finds v r h
rule_finds_in Hash v r h b = hashes.finds v r h
rule_finds_in Punct v r h b = punct-finds v r h

pub rule_finds : (k : Kind) (text v r : List ℕ) → Fits k text v r → Finds (length_of k text) (length v)
rule_finds k text v r f = rw f.cut (rule_finds_in k v r f.spelled f.before)
