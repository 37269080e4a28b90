use Rattle.std.specs.Prelude.{ℕ, Bool, false, true, not, ◌==◌, ◌||◌, ◌&&◌, List, [], ◌∷◌, codes}

-- whether the list is empty
abbrev pub is_empty : List ℕ → Bool
is_empty [] = true
is_empty (b ∷ bs) = false

-- a name begins with these bytes, and is no longer where it is to be whole
unfoldable pub begins_as : Bool → List ℕ → List ℕ → Bool
begins_as whole name [] = not whole || is_empty name
begins_as whole [] (w ∷ ws) = false
begins_as whole (b ∷ bs) (w ∷ ws) = (b == w) && begins_as whole bs ws

-- the names of functions that only tell the optimizer something: `llvm.assume`, and those of `llvm.dbg.` and of `llvm.lifetime.`
abbrev pub is_note_name : List ℕ → Bool
is_note_name name = begins_as true name (codes "llvm.assume") || begins_as false name (codes "llvm.dbg.") || begins_as false name (codes "llvm.lifetime.")
