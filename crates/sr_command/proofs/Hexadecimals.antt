-- What a hole of eight zero-padded hexadecimal digits writes.
use Rattle.std.proofs.Common.{◌≡◌, ◌-◌, ◌^◌, ℕ, [], false, arith}
use Rattle.std.proofs.lemmas.List.{append-nil}
use Rattle.std.specs.Fmt.{padded_integral, format_spec, char_count, digits}
use Rattle.sr_command.specs.Hexadecimal.{eight_digits}

sub_nothing : (n : ℕ) → n - 0 - 0 ≡ n
sub_nothing n = omega arith

pub padded : (n : ℕ) → padded_integral (format_spec 32 0 4 8 (2 ^ 64 - 1)) false [] (digits 16 false n) ≡ eight_digits n
unfolding padded_integral char_count
padded n = simp (sub_nothing, append-nil)
