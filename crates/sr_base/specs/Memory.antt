use Rattle.std.specs.Prelude.{ℕ, List, map, refl, Vec, String, string_bytes}
use Rattle.std.specs.Ordering.{nat_cmp}
use Rattle.std.specs.Cmp.Lexicographic.{slice_cmp}
use Rattle.std.specs.FinMap.{from_entries, code}
use Rattle.std.specs.BTreeMap.{BTreeMap}
use Rattle.std.specs.Coded.{Coded, code_by, coded×, coded_list, coded_ℕ}
use Rattle.std.specs.declared.alloc.Global.{Global}
use Rattle.sr_base.specs.Files.{Files}

-- a store in memory: its files, the numbers of the calls that fail, how many calls there were, and its counts
pub record StoreState : Type 0 where
  pub files : Files
  pub failing : List ℕ
  pub calls : ℕ
  pub read_faults : ℕ
  pub write_faults : ℕ
  pub write_wants : ℕ

-- a store's state is stored as the nested pairs of its fields
abbrev pub store_state_code : Coded StoreState
store_state_code =
    code_by (Files × (List ℕ × (ℕ × (ℕ × (ℕ × ℕ)))))
    (coded× (code {R = slice_cmp nat_cmp} (coded_list coded_ℕ) (coded_list coded_ℕ)) (coded× (coded_list coded_ℕ) (coded× coded_ℕ (coded× coded_ℕ (coded× coded_ℕ coded_ℕ)))))
    (λ s. (s.files, (s.failing, (s.calls, (s.read_faults, (s.write_faults, s.write_wants))))))
    (λ p. record { files = p.0; failing = p.1.0; calls = p.1.1.0; read_faults = p.1.1.1.0; write_faults = p.1.1.1.1.0; write_wants = p.1.1.1.1.1 })
    (λ _. refl)

-- a sink in memory: the most bytes a put takes, the numbers of the puts that fail, what it took, how many puts there were, and its counts
pub record SinkState : Type 0 where
  pub most : ℕ
  pub failing : List ℕ
  pub taken : List ℕ
  pub calls : ℕ
  pub faults : ℕ
  pub wants : ℕ

-- the files that a map from names to bytes holds
abbrev pub files_of : BTreeMap (String Global) (Vec ℕ Global) → Files
files_of m = from_entries (map (λ e. (string_bytes e.0, e.1.items)) m.entries)
