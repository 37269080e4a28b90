-- What a hole of eight zero-padded hexadecimal digits writes.
use Rattle.std.proofs.Common.{◌≡◌, ◌-◌, ◌^◌, ℕ, List, [], ◌++◌, length, false, arith, replicate}
use Rattle.std.proofs.lemmas.List.{append-nil}
use Rattle.std.specs.Fmt.{padded_integral, format_spec, char_count}

sub_nothing : (n : ℕ) → n - 0 - 0 ≡ n
sub_nothing n = omega arith

pub padded_to_eight : (numeral : List ℕ) → padded_integral (format_spec 32 0 4 8 (2 ^ 64 - 1)) false [] numeral ≡ replicate (8 - length numeral) 48 ++ numeral
unfolding padded_integral char_count
padded_to_eight numeral = simp (sub_nothing, append-nil)
