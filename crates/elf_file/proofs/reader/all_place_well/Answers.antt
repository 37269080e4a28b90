use Rattle.std.proofs.Common.{true, false, sym, arith, length-drop}
use Rattle.std.proofs.lemmas.List.{take_all}
use Rattle.elf_file.specs.Reading.{program_header}
use Rattle.elf_file.proofs.Tables.{good_seen, load_seen, placed_badly, placed_more, placed_same, skip_seen}
use Rattle.elf_file.proofs.reader.all_place_well.Goals as goal
use Rattle.elf_file.proofs.reader.all_place_well.Goals.{else-header-eq-PT_LOAD-via-then-header-eq-PT_LOAD+else-not-places_well, else-header-eq-PT_LOAD-via-else-header-eq-PT_LOAD}

pub returns-then-not-places_well : goal.returns-then-not-places_well
returns-then-not-places_well c =
    sym (placed_badly c.args.size c.args.count c.loop.counter c.args.table.now c.loop.rest.now c.loop-test.true
    (load_seen c.read-header.result (program_header c.loop.rest.now) c.read-header.ensures c.if-header-eq-PT_LOAD.true)
    (good_seen c.args.size c.read-header.result (program_header c.loop.rest.now) false c.read-header.ensures c.if-not-places_well.ensures)
    c.loop.invariant)

pub loop-preserved : goal.loop-preserved
loop-preserved c =
    elim c.else-header-eq-PT_LOAD.branch [
      | else-header-eq-PT_LOAD-via-then-header-eq-PT_LOAD+else-not-places_well w ↦
          placed_more c.args.size c.args.count c.loop.counter c.args.table.now c.loop.rest.now _ c.loop-test.true
          (load_seen c.read-header.result (program_header c.loop.rest.now) c.read-header.ensures w.if-header-eq-PT_LOAD.true)
          (good_seen c.args.size c.read-header.result (program_header c.loop.rest.now) true c.read-header.ensures w.if-not-places_well.ensures)
          c.loop.invariant (take_all _ _ (omega (arith, length-drop 56 c.loop.rest.now)))
      | else-header-eq-PT_LOAD-via-else-header-eq-PT_LOAD w ↦
          placed_same c.args.size c.args.count c.loop.counter c.args.table.now c.loop.rest.now _ c.loop-test.true
          (skip_seen c.read-header.result (program_header c.loop.rest.now) c.read-header.ensures w.if-header-eq-PT_LOAD.false)
          c.loop.invariant (take_all _ _ (omega (arith, length-drop 56 c.loop.rest.now)))
    ]
