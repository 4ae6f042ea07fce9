use Rattle.std.proofs.Common.{refl}
use Rattle.schedule.specs.Desks.{LocksTell, board, tables}
use Rattle.schedule.proofs.AtDesk.{into_keeps, into_seen}
use Rattle.schedule.proofs.schedule.Schedule.list_unchosen.Goals as goal

pub returns-clause-lists : goal.returns-clause-lists
returns-clause-lists g c =
    let s = c.args.self.now in
    into_seen g.S.Sink.contents LocksTell board (λ d a o e told. told.0) s.untold c.requires s.desk.now.locks c.list_lines.new.server s.reader c.list_lines.new.reader c.args.out.now c.list_lines.new.out c.list_lines.result c.list_lines.ensures.lists

pub returns-clause-same : goal.returns-clause-same
returns-clause-same g c =
    let s = c.args.self.now in
    (refl, into_keeps g.S.Sink.contents LocksTell tables (λ d a o e told. told.1) s.desk.now.locks c.list_lines.new.server s.reader c.list_lines.new.reader c.args.out.now c.list_lines.new.out c.list_lines.result c.list_lines.ensures.lists)
