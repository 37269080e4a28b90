use Rattle.std.proofs.Common.{◌+◌, replicate, refl, arith}
use Rattle.std.proofs.lemmas.List.{length-replicate}
use Rattle.sr_edge.proofs.edge.DirStoreStore.read.Goals as goal

-- the files are not told, so any content that is long enough serves
pub returns-in-Err-TooLong-clause-refused : goal.returns-in-Err-TooLong-clause-refused
returns-in-Err-TooLong-clause-refused g c = (replicate (c.args.max + 1) 0, refl, rw length-replicate (omega arith))
