-- The fetch of three copies that lie in registers.
use Rattle.std.specs.Prelude.{ℕ, ◌+◌, List, [], ◌∷◌}
use Rattle.rv_model.specs.Text.{text_base, WordsOf}
use Rattle.rv_flips.specs.Cells.{Cell, Free, Has, Sure, One, Two, Three}
use Rattle.rv_flips.specs.Assertion.{AnyByte, Assertion, with_register, after_write}
use Rattle.rv_flips.specs.Fetching.{fetch_words}
use Rattle.rv_flips.specs.Moves.{Moves}
use Rattle.flip_words.specs.Placed.{WindowPoints, Excepted, IsPlaced}

-- x8, x9 and x18 have three copies of 5
abbrev pub copies : ℕ → Cell
copies = with_register (with_register (with_register (λ r. Free) 8 (Has One 5)) 9 (Has Two 5)) 18 (Has Three 5)

abbrev pub before_fetch : Assertion
before_fetch = record {
  pc = text_base;
  regs = copies;
  slots = λ k. Free;
  bytes = λ o. AnyByte;
  size = 0;
  input = [];
  out = [];
}

abbrev pub fetch_text : List ℕ
fetch_text =
    0x00040293 ∷ 0x00928463 ∷ 0x00090293 ∷ []

-- the words bring 5 into x5, whatever flip outside the text's window points comes
pub record FetchHolds : Type 0 where
  pub words : WordsOf fetch_text (fetch_words 5 8 9 18)
  pub placed : IsPlaced fetch_text text_base (fetch_words 5 8 9 18)
  pub moves : Moves fetch_text (Excepted WindowPoints fetch_text) before_fetch 3 (after_write before_fetch 5 (Has Sure 5) (text_base + 12))
