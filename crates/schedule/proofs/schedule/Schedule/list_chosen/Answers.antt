use Rattle.std.proofs.Common.{refl, ap}
use Rattle.script.specs.declared.call.MemoryKind.TheVariants.{Words, Packed}
use Rattle.script.specs.declared.call.QueueKind.TheVariants.{Ring, Masks}
use Rattle.schedule.specs.Desks.{masks, packed, ring, tables, words}
use Rattle.schedule.specs.Progress.{progress}
use Rattle.schedule.proofs.AtDesk.{chosen_listed, table_kept}
use Rattle.schedule.proofs.Printed.{nothing_listed}
use Rattle.schedule.proofs.schedule.Schedule.list_chosen.Goals as goal

pub returns-in_default-clause-lists : goal.returns-in_default-clause-lists
returns-in_default-clause-lists g c = nothing_listed g.S.Sink.contents g.row.S-Error.Denot (progress c.args.self.now) c.args.out.now c.requires.told

pub returns-in-Words-Ring-clause-lists : goal.returns-in-Words-Ring-clause-lists
returns-in-Words-Ring-clause-lists g c =
    let s = c.args.self.now in
    let d = s.desk.now.locks in
    chosen_listed g.S.Sink.contents Words Ring words ring d.words_ring c.list_lines.new.server s.reader c.list_lines.new.reader c.args.out.now c.list_lines.new.out c.list_lines.result c.list_lines.ensures.lists d c.in-Some.pair c.in-Some.is c.in-Words-Ring.is-0 c.in-Words-Ring.is-1 s.untold c.requires.told

pub returns-in-Words-Ring-clause-same : goal.returns-in-Words-Ring-clause-same
returns-in-Words-Ring-clause-same g c =
    let s = c.args.self.now in
    let d = s.desk.now.locks in
    (refl, ap (λ n. (n, (tables d).1, (tables d).2, (tables d).3)) (table_kept g.S.Sink.contents Words Ring words ring d.words_ring c.list_lines.new.server s.reader c.list_lines.new.reader c.args.out.now c.list_lines.new.out c.list_lines.result c.list_lines.ensures.lists))

pub returns-in-Words-Masks-clause-lists : goal.returns-in-Words-Masks-clause-lists
returns-in-Words-Masks-clause-lists g c =
    let s = c.args.self.now in
    let d = s.desk.now.locks in
    chosen_listed g.S.Sink.contents Words Masks words masks d.words_masks c.list_lines-in-Words-Masks.new.server s.reader c.list_lines-in-Words-Masks.new.reader c.args.out.now c.list_lines-in-Words-Masks.new.out c.list_lines-in-Words-Masks.result c.list_lines-in-Words-Masks.ensures.lists d c.in-Some.pair c.in-Some.is c.in-Words-Masks.is-0 c.in-Words-Masks.is-1 s.untold c.requires.told

pub returns-in-Words-Masks-clause-same : goal.returns-in-Words-Masks-clause-same
returns-in-Words-Masks-clause-same g c =
    let s = c.args.self.now in
    let d = s.desk.now.locks in
    (refl, ap (λ n. ((tables d).0, n, (tables d).2, (tables d).3)) (table_kept g.S.Sink.contents Words Masks words masks d.words_masks c.list_lines-in-Words-Masks.new.server s.reader c.list_lines-in-Words-Masks.new.reader c.args.out.now c.list_lines-in-Words-Masks.new.out c.list_lines-in-Words-Masks.result c.list_lines-in-Words-Masks.ensures.lists))

pub returns-in-Packed-Ring-clause-lists : goal.returns-in-Packed-Ring-clause-lists
returns-in-Packed-Ring-clause-lists g c =
    let s = c.args.self.now in
    let d = s.desk.now.locks in
    chosen_listed g.S.Sink.contents Packed Ring packed ring d.packed_ring c.list_lines-in-Packed-Ring.new.server s.reader c.list_lines-in-Packed-Ring.new.reader c.args.out.now c.list_lines-in-Packed-Ring.new.out c.list_lines-in-Packed-Ring.result c.list_lines-in-Packed-Ring.ensures.lists d c.in-Some.pair c.in-Some.is c.in-Packed-Ring.is-0 c.in-Packed-Ring.is-1 s.untold c.requires.told

pub returns-in-Packed-Ring-clause-same : goal.returns-in-Packed-Ring-clause-same
returns-in-Packed-Ring-clause-same g c =
    let s = c.args.self.now in
    let d = s.desk.now.locks in
    (refl, ap (λ n. ((tables d).0, (tables d).1, n, (tables d).3)) (table_kept g.S.Sink.contents Packed Ring packed ring d.packed_ring c.list_lines-in-Packed-Ring.new.server s.reader c.list_lines-in-Packed-Ring.new.reader c.args.out.now c.list_lines-in-Packed-Ring.new.out c.list_lines-in-Packed-Ring.result c.list_lines-in-Packed-Ring.ensures.lists))

pub returns-in-Packed-Masks-clause-lists : goal.returns-in-Packed-Masks-clause-lists
returns-in-Packed-Masks-clause-lists g c =
    let s = c.args.self.now in
    let d = s.desk.now.locks in
    chosen_listed g.S.Sink.contents Packed Masks packed masks d.packed_masks c.list_lines-in-Packed-Masks.new.server s.reader c.list_lines-in-Packed-Masks.new.reader c.args.out.now c.list_lines-in-Packed-Masks.new.out c.list_lines-in-Packed-Masks.result c.list_lines-in-Packed-Masks.ensures.lists d c.in-Some.pair c.in-Some.is c.in-Packed-Masks.is-0 c.in-Packed-Masks.is-1 s.untold c.requires.told

pub returns-in-Packed-Masks-clause-same : goal.returns-in-Packed-Masks-clause-same
returns-in-Packed-Masks-clause-same g c =
    let s = c.args.self.now in
    let d = s.desk.now.locks in
    (refl, ap (λ n. ((tables d).0, (tables d).1, (tables d).2, n)) (table_kept g.S.Sink.contents Packed Masks packed masks d.packed_masks c.list_lines-in-Packed-Masks.new.server s.reader c.list_lines-in-Packed-Masks.new.reader c.args.out.now c.list_lines-in-Packed-Masks.new.out c.list_lines-in-Packed-Masks.result c.list_lines-in-Packed-Masks.ensures.lists))
