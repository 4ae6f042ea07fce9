use Rattle.std.proofs.Common.{Ok, Err, ap}
use Rattle.schedule.specs.Progress.{Progress, progress}
use Rattle.schedule.proofs.Printed.{prints_all, prints_failed, then_more, whole_into}
use Rattle.schedule.proofs.schedule.Schedule.print.Goals as goal

pub list_unchosen-requires : goal.list_unchosen-requires
list_unchosen-requires g c = ap (λ (p : Progress). p.untold) c.in_ok-tell_whole.ensures.reached

pub list_chosen-requires-clause-told : goal.list_chosen-requires-clause-told
list_chosen-requires-clause-told g c = let (rest, on, kept) = c.in_ok-list_unchosen.ensures.lists in ap (λ (p : Progress). p.untold) on.reached

pub returns-in_err-tell_whole-clause-prints : goal.returns-in_err-tell_whole-clause-prints
returns-in_err-tell_whole-clause-prints g c =
    let s = c.args.self.now in
    let o = c.args.out.now in
    let x = c.in_err-tell_whole.field-0.0 in
    let told = whole_into g.S.Sink.contents (progress s) (progress c.tell_whole.new.self) o c.tell_whole.new.out (Err x) c.in_err-tell_whole.ensures.reached c.in_err-tell_whole.ensures.appended c.in_err-tell_whole.ensures.lost in
    prints_failed g.S.Sink.contents s c.tell_whole.new.self o c.tell_whole.new.out c.from_residual.result x c.from_residual.ensures.0 told

pub returns-in_err-list_unchosen-clause-prints : goal.returns-in_err-list_unchosen-clause-prints
returns-in_err-list_unchosen-clause-prints g c =
    let s = c.args.self.now in
    let o = c.args.out.now in
    let q = progress c.tell_whole.new.self in
    let x = c.in_err-list_unchosen.field-0.0 in
    let r = c.from_residual-in_err-list_unchosen in
    let told = whole_into g.S.Sink.contents {E = g.row.S-Error.Denot} (progress s) q o c.tell_whole.new.out (Ok tt) c.in_ok-tell_whole.ensures.reached c.in_ok-tell_whole.ensures.appended tt in
    prints_failed g.S.Sink.contents s c.list_unchosen.new.self o c.list_unchosen.new.out r.result x r.ensures.0
    (then_more g.S.Sink.contents (progress s) q (progress c.list_unchosen.new.self) o c.tell_whole.new.out c.list_unchosen.new.out (Err x) told c.in_err-list_unchosen.ensures.lists)

pub returns-in_err-list_chosen-clause-prints : goal.returns-in_err-list_chosen-clause-prints
returns-in_err-list_chosen-clause-prints g c =
    let s = c.args.self.now in
    let o = c.args.out.now in
    let q = progress c.tell_whole.new.self in
    let u = progress c.list_unchosen.new.self in
    let x = c.in_err-list_chosen.field-0.0 in
    let r = c.from_residual-in_err-list_chosen in
    let told = whole_into g.S.Sink.contents {E = g.row.S-Error.Denot} (progress s) q o c.tell_whole.new.out (Ok tt) c.in_ok-tell_whole.ensures.reached c.in_ok-tell_whole.ensures.appended tt in
    let first = then_more g.S.Sink.contents {E = g.row.S-Error.Denot} (progress s) q u o c.tell_whole.new.out c.list_unchosen.new.out (Ok tt) told c.in_ok-list_unchosen.ensures.lists in
    prints_failed g.S.Sink.contents s c.list_chosen.new.self o c.list_chosen.new.out r.result x r.ensures.0
    (then_more g.S.Sink.contents (progress s) u (progress c.list_chosen.new.self) o c.list_unchosen.new.out c.list_chosen.new.out (Err x) first c.in_err-list_chosen.ensures.lists)

pub returns-clause-prints : goal.returns-clause-prints
returns-clause-prints g c =
    let s = c.args.self.now in
    let o = c.args.out.now in
    let q = progress c.tell_whole.new.self in
    let u = progress c.list_unchosen.new.self in
    let told = whole_into g.S.Sink.contents {E = g.row.S-Error.Denot} (progress s) q o c.tell_whole.new.out (Ok tt) c.in_ok-tell_whole.ensures.reached c.in_ok-tell_whole.ensures.appended tt in
    let first = then_more g.S.Sink.contents {E = g.row.S-Error.Denot} (progress s) q u o c.tell_whole.new.out c.list_unchosen.new.out (Ok tt) told c.in_ok-list_unchosen.ensures.lists in
    let all = then_more g.S.Sink.contents {E = g.row.S-Error.Denot} (progress s) u (progress c.list_chosen.new.self) o c.list_unchosen.new.out c.list_chosen.new.out (Ok tt) first c.in_ok-list_chosen.ensures.lists in
    prints_all g.S.Sink.contents s c.list_chosen.new.self o c.list_chosen.new.out c.flush.new.self c.flush.result all c.in_ok-list_chosen.ensures.over c.flush.ensures.written c.flush.ensures.empty
