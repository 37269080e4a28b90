-- Executables that survive every flip outside a list of points.
use Rattle.std.specs.Prelude.{◌≡◌, ◌+◌, ◌*◌, ℕ, List, [], length, map, Some, Ok}
use Rattle.std.specs.List.{AllByRecursion}
use Rattle.elf_file.specs.Image.{ProgramImage, ImageSegment, text_segment, words_of}
use Rattle.elf_file.specs.Reading.{reading_of}
use Rattle.rv_inst.specs.Window.{IsWindowPoint}
use Rattle.rv_flips.specs.Survives.{Survives}
use Rattle.point_list.specs.Points.{IsPoint}
use Rattle.point_list.specs.declared.list.Point.{Point}

-- the points as pairs of an address and a register
abbrev pub pairs : List Point → List (ℕ × ℕ)
pairs points = map (λ point. (point.pc, point.reg)) points

-- the bytes are an executable that does nothing but end with the status: without a flip, and with every flip of one bit of one register
-- outside the points, its run on any input ends within 2 * (words + 1) instructions, with no output and that status. Each point is a
-- window point of its text.
pub record IsHardened (bytes : List ℕ) (points : List Point) (status : ℕ) : Type 0 where
  pub image : ProgramImage
  pub text : ImageSegment
  pub is_image : reading_of bytes ≡ Ok image
  pub is_text : text_segment image ≡ Some text
  pub survives : (input : List ℕ) → Survives image (pairs points) input [] status (2 * (length (words_of text.init) + 1))
  pub windows : AllByRecursion (λ point. IsWindowPoint (words_of text.init) text.base point.pc point.reg) points
  pub within : AllByRecursion IsPoint points
