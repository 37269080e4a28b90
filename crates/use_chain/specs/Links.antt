-- Links: what each knows, and what becomes of them when one is taken out or put in.
use Rattle.std.specs.Prelude.{ℕ, List, slice_index_or, slice_set}
use Rattle.use_chain.specs.declared.uses.UseAt.{UseAt}
use Rattle.use_chain.specs.declared.link.Link.{Link}

-- a link past the end
abbrev pub no_link : Link
no_link = record { prev = 0; next = 0; list = 0; at = record { block = record { 0 = 0 }; inst = 0; operand = 0 } }

-- the link of a number
abbrev pub link_at : List Link → ℕ → Link
link_at links k = slice_index_or links k no_link

-- the links where one has another after it
abbrev pub with_next : List Link → ℕ → ℕ → List Link
with_next links k next = slice_set links k (record (link_at links k) { next = next })

-- the links where one has another before it
abbrev pub with_prev : List Link → ℕ → ℕ → List Link
with_prev links k prev = slice_set links k (record (link_at links k) { prev = prev })

-- the links where those around one know each other
unfoldable pub without_link : List Link → ℕ → List Link
without_link links k = with_prev (with_next links (link_at links k).prev (link_at links k).next) (link_at links k).next (link_at links k).prev

-- the links where one stands in a list, before its head
abbrev pub placed : List Link → ℕ → ℕ → ℕ → UseAt → List Link
placed links k prev list at = slice_set links k (record { prev = prev; next = list; list = list; at = at })

-- the links where one is last in a list, for a use
unfoldable pub with_last_link : List Link → ℕ → ℕ → UseAt → List Link
with_last_link links k list at =
    placed (with_prev (with_next links (link_at links list).prev k) list k) k (link_at links list).prev list at
