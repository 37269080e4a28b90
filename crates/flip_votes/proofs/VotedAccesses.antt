-- Loads, words that compute, and stores by one vote.
use Rattle.std.proofs.Common.{◌≡◌, ℕ, suc, ◌<◌, ◌≤◌, true, List, [], ◌∷◌, ◌++◌, length, Option, refl, ap, arith, length-append}
use Rattle.std.specs.List.{list_all}
use Rattle.flip_frames.specs.Views.{Stage, View, with_scratch}
use Rattle.flip_frames.specs.Computing.{effect_of}
use Rattle.flip_frames.specs.Slots.{stage_keeps, with_slot}
use Rattle.flip_votes.specs.Votes.{RunsVoted, lets_stand, ends_in_access, IsServed}
use Rattle.flip_votes.specs.Accesses.{Access, load_words, store_words, CanLoad, CanStore, loaded, put_away, VersionsAreVoted}
use Rattle.flip_votes.proofs.VotedRuns.{voted_then, voted_none, load_voted, store_voted, pure_voted}
use Rattle.flip_votes.proofs.VoteWindows.{served_runs}
use Rattle.flip_votes.proofs.VotedVersions.{all_stand, all_both, ends_after}

loads_run : (words : List ℕ) (v : View) (values : ℕ → Option ℕ) (xs : List Access) → CanLoad v.stage v.tag values xs → RunsVoted words (load_words xs) v (record v { file = loaded values xs v.file })
loads_run words v values [] can = voted_none words v
loads_run words v values (a ∷ rest) can =
    voted_then (load_voted words v a.reg a.slot (values a.slot) can.0.scratch can.0.within can.1) (loads_run words (with_scratch v a.reg (values a.slot)) values rest can.2)

-- a slot that can be reached is so after a store
can_still : (g : Stage) (n : ℕ) (o : Option ℕ) (v : View) (ys : List Access) → CanStore g ys → CanStore (stage_keeps g n o v) ys
can_still g n o v [] can = tt
can_still g n o v (a ∷ rest) can = (record { scratch = can.0.scratch; within = can.0.within }, can_still g n o v rest can.1)

stores_run : (words : List ℕ) (v : View) (ys : List Access) → CanStore v.stage ys → RunsVoted words (store_words ys) v (put_away ys v)
stores_run words v [] can = voted_none words v
stores_run words v (a ∷ rest) can =
    voted_then (store_voted words v a.reg a.slot can.0.scratch can.0.within)
    (stores_run words (with_slot v a.slot (v.file a.reg)) rest (can_still v.stage a.slot (v.file a.reg) v rest can.1))

loads_stand : (v : View) (values : ℕ → Option ℕ) (xs : List Access) → CanLoad v.stage v.tag values xs → list_all lets_stand (load_words xs) ≡ true
loads_stand v values [] can = refl
loads_stand v values (a ∷ rest) can = rw can.0.scratch (loads_stand v values rest can.2)

stores_stand : (ys : List Access) → list_all lets_stand (store_words ys) ≡ true
stores_stand [] = refl
stores_stand (a ∷ rest) = stores_stand rest

stores_end : (ys : List Access) → 0 < length ys → ends_in_access (store_words ys) ≡ true
stores_end [] some = absurd (omega arith)
stores_end (a ∷ []) some = refl
stores_end (a ∷ b ∷ rest) some = stores_end (b ∷ rest) (omega arith)

length-loads : (xs : List Access) → length (load_words xs) ≡ length xs
length-loads [] = refl
length-loads (a ∷ rest) = ap suc (length-loads rest)

length-stores : (ys : List Access) → length (store_words ys) ≡ length ys
length-stores [] = refl
length-stores (a ∷ rest) = ap suc (length-stores rest)

pub versions_run : VersionsAreVoted
versions_run words xs ys code v values pure can_load can_store some few =
    let v1 : View = record v { file = loaded values xs v.file } in
    let v2 : View = record v { file = effect_of code (loaded values xs v.file) } in
    let ends = code ++ store_words ys in
    let size : length (load_words xs ++ (code ++ store_words ys)) ≤ 31 =
    omega (arith, few, length-append (load_words xs) (code ++ store_words ys), length-append code (store_words ys), length-loads xs, length-stores ys) in
    let served : IsServed (load_words xs ++ (code ++ store_words ys)) =
    record {
      short = size;
      stands = all_both (load_words xs) ends (loads_stand v values xs can_load) (all_both code (store_words ys) (all_stand code pure) (stores_stand ys));
      last = ends_after (load_words xs) ends (ends_after code (store_words ys) (stores_end ys some));
    } in
    served_runs words (load_words xs ++ ends) v (put_away ys v2) served (voted_then (loads_run words v values xs can_load) (voted_then (pure_voted words code v1 pure) (stores_run words v2 ys can_store)))
