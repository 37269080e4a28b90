-- From the words of a text to what the machine fetches, and from data to what it loads and stores.
use Rattle.std.proofs.Common.{◌≡◌, ℕ, zero, suc, ◌+◌, ◌-◌, ◌*◌, ◌%◌, ◌<◌, ◌≤◌, ◌^◌, ◌==◌, nat_le, true, false, List, [], ◌∷◌, ◌++◌, length, take, drop, Some, refl, ◌∙◌, ap, subst, arith}
use Rattle.std.specs.Prelude.{slice_range, slice_get}
use Rattle.std.proofs.Common.{get_or, length-drop, drop-cons}
use Rattle.std.proofs.Math.Seq.{drop-append_seam}
use Rattle.std.proofs.lemmas.Bool.{le-leb}
use Rattle.std.proofs.lemmas.Option.{slice_get_within, slice_get-get_or}
use Rattle.std.proofs.lemmas.Bool.Decides.{nat_tests}
use Rattle.byteorder.specs.Endian.{little_number, little_bytes}
use borrow.Rule.Slice.PartMut.{put_mid}
use Rattle.rv_inst.specs.declared.instruction.Form.{Form}
use Rattle.rv_inst.proofs.WordLemmas.{form_at_word, word_small}
use Rattle.rv_model.specs.State.{MachineState}
use Rattle.rv_model.specs.Memory.{read, bytes_at, stored, word_at}
use Rattle.rv_model.specs.Step.{step, act, fetched, decoded}
use Rattle.rv_model.specs.Text.{text_base, data_base, bytes_of_words, layout, Stands, StandsAll, WordsOf}
use Rattle.rv_model.proofs.ByteLemmas.{little_number-little_bytes}

pub length-bytes_of_words : (words : List ℕ) → length (bytes_of_words words) ≡ 4 * length words
length-bytes_of_words [] = refl
length-bytes_of_words (w ∷ ws) = let rest = length-bytes_of_words ws in omega arith

-- the bytes of the word with this index
drop-bytes_of_words : (words : List ℕ) (index word : ℕ) → slice_get words index ≡ Some word → take 4 (drop (4 * index) (bytes_of_words words)) ≡ little_bytes 4 word
drop-bytes_of_words [] index word e = absurd (omega (arith, slice_get_within [] index word e))
drop-bytes_of_words (w ∷ ws) zero word e = let same : w ≡ word = cc in ap (little_bytes 4) same
drop-bytes_of_words (w ∷ ws) (suc index) word e =
    let four : 4 * suc index ≡ suc (suc (suc (suc (4 * index)))) = omega arith in
    rw four (drop-bytes_of_words ws index word e)

pub range-bytes_of_words : (words : List ℕ) (index word : ℕ) → slice_get words index ≡ Some word → slice_range (bytes_of_words words) (4 * index) (4 * index + 4) ≡ little_bytes 4 word
range-bytes_of_words words index word e =
    let count : 4 * index + 4 - 4 * index ≡ 4 = omega arith in
    ap (λ n. take n (drop (4 * index) (bytes_of_words words))) count ∙ drop-bytes_of_words words index word e

-- the machine fetches the word with this index
pub word_at-layout : (words place : List ℕ) (p index word : ℕ) → p ≡ text_base + 4 * index → slice_get words index ≡ Some word → word < 2 ^ 32 → word_at p (layout words place) ≡ Some word
unfolding word_at bytes_at
word_at-layout words place p index word at found small =
    let within = slice_get_within words index word found in
    let size = length-bytes_of_words words in
    let aligned : (p % 4 == 0) ≡ true = grind (arith, nat_tests) in
    let from : nat_le text_base p ≡ true = le-leb text_base p (omega arith) in
    let to : nat_le (p + 4) (text_base + length (bytes_of_words words)) ≡ true = le-leb (p + 4) (text_base + length (bytes_of_words words)) (omega arith) in
    let offset : p - text_base ≡ 4 * index = omega arith in
    let number : little_number 4 (little_bytes 4 word) ≡ word = little_number-little_bytes 4 word small in
    rw (aligned, from, to, offset) (ap (λ bytes. Some (little_number 4 bytes)) (range-bytes_of_words words index word found) ∙ ap Some number)

-- the step at an address is the act of the instruction that stands there
pub step-stands : (words place : List ℕ) (s : MachineState) (p : ℕ) (i : Form) → s.pc ≡ p → s.segments ≡ layout words place → Stands words p i → step s ≡ act i s
unfolding step
step-stands words place s p i at memory stands =
    let word : word_at s.pc s.segments ≡ Some (stands.word) =
    ap (λ q. word_at q s.segments) at ∙ ap (word_at p) memory ∙ word_at-layout words place p (stands.index) (stands.word) stands.place stands.found (word_small (stands.word) i stands.is_word) in
    ap (λ w. fetched w s) word ∙ ap (λ o. decoded o s) (form_at_word (stands.word) i stands.is_word)

-- the first of two groups, and the second
pub stands_front : (words : List ℕ) (p : ℕ) (xs ys : List Form) → StandsAll words p (xs ++ ys) → StandsAll words p xs
stands_front words p [] ys h = tt
stands_front words p (x ∷ xs) ys h = (h.0, stands_front words (p + 4) xs ys h.1)

pub stands_back : (words : List ℕ) (p : ℕ) (xs ys : List Form) → StandsAll words p (xs ++ ys) → StandsAll words (p + 4 * length xs) ys
stands_back words p [] ys h =
    let same : p ≡ p + 4 * 0 = omega arith in
    let P : ℕ → Type 0 = λ q. StandsAll words q ys in
    subst P same h
stands_back words p (x ∷ xs) ys h =
    let same : p + 4 + 4 * length xs ≡ p + 4 * suc (length xs) = omega arith in
    let P : ℕ → Type 0 = λ q. StandsAll words q ys in
    subst P same (stands_back words (p + 4) xs ys h.1)

-- instructions whose words are in the text from an index on stand there
pub stands_from : (words : List ℕ) (index : ℕ) (ws back : List ℕ) (is : List Form) → drop index words ≡ ws ++ back → WordsOf ws is → StandsAll words (text_base + 4 * index) is
stands_from words index [] back [] e h = tt
stands_from words index [] back (i ∷ is) e h = absurd h
stands_from words index (w ∷ ws) back [] e h = absurd h
stands_from words index (w ∷ ws) back (i ∷ is) e h =
    let size : length words - index ≡ suc (length (ws ++ back)) = omega (arith, length-drop index words, ap length e) in
    let cut = drop-cons words index 0 (omega arith) in
    let head : get_or words index 0 ≡ w = cc in
    let tail : drop (suc index) words ≡ ws ++ back = cc in
    let found : slice_get words index ≡ Some w = slice_get-get_or words index 0 (omega arith) ∙ ap Some head in
    let stands : Stands words (text_base + 4 * index) i = record { index = index; word = w; place = refl; found = found; is_word = h.0 } in
    let P : ℕ → Type 0 = λ q. StandsAll words q is in
    let there : text_base + 4 * suc index ≡ text_base + 4 * index + 4 = omega arith in
    (stands, subst P there (stands_from words (suc index) ws back is tail h.1))

-- instructions whose words are in the middle of a text stand there
pub stands_within : (front ws back : List ℕ) (is : List Form) → WordsOf ws is → StandsAll (front ++ (ws ++ back)) (text_base + 4 * length front) is
stands_within front ws back is h = stands_from (front ++ (ws ++ back)) (length front) ws back is (drop-append_seam front (ws ++ back)) h

-- bytes of the data are loaded from where they lie
pub bytes_at-data : (words place : List ℕ) (o n : ℕ) → text_base + 4 * length words ≤ data_base → 0 < n → o + n ≤ length place → bytes_at read (data_base + o) n (layout words place) ≡ Some (slice_range place o (o + n))
unfolding bytes_at
bytes_at-data words place o n short some within =
    let size = length-bytes_of_words words in
    let past : nat_le (data_base + o + n) (text_base + length (bytes_of_words words)) ≡ false = grind (arith, nat_tests) in
    let below : nat_le text_base (data_base + o) ≡ true = le-leb text_base (data_base + o) (omega arith) in
    let from : nat_le data_base (data_base + o) ≡ true = le-leb data_base (data_base + o) (omega arith) in
    let to : nat_le (data_base + o + n) (data_base + length place) ≡ true = le-leb (data_base + o + n) (data_base + length place) (omega arith) in
    let offset : data_base + o - data_base ≡ o = omega arith in
    rw (below, past, from, to, offset)

-- bytes are stored into the data, and the text stays
pub stored-data : (words place bytes : List ℕ) (o : ℕ) → o + length bytes ≤ length place → stored (data_base + o) bytes (layout words place) ≡ Some (layout words (put_mid o (length bytes) place bytes))
unfolding stored
stored-data words place bytes o within =
    let from : nat_le data_base (data_base + o) ≡ true = le-leb data_base (data_base + o) (omega arith) in
    let to : nat_le (data_base + o + length bytes) (data_base + length place) ≡ true = le-leb (data_base + o + length bytes) (data_base + length place) (omega arith) in
    let offset : data_base + o - data_base ≡ o = omega arith in
    rw (from, to, offset)
