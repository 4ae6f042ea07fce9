use Rattle.std.proofs.Common.{◌-◌, arith}
use Rattle.std.proofs.lemmas.Result.{MatchResult-from_err}
use borrow.Rule.Slice.PartMut.{mid_of}
use Rattle.listing.specs.Outputs.{held}
use Rattle.listing.proofs.Held.{cut_heading, cut_note, first_byte, held_heading, passed_note}
use Rattle.listing.proofs.output.Output.write_note.Goals as goal

pub returns-in_err-flush-clause-appended : goal.returns-in_err-flush-clause-appended
returns-in_err-flush-clause-appended g c =
    let self = c.args.self.now in
    let n = c.args.number in
    let all = held_heading self.bytes (mid_of self.count (4096 - self.count) self.bytes) c.put_heading.new.out _ self.count c.unwrap.result n c.put_heading.result c.unwrap.ensures c.put_heading.ensures.line (omega (arith, self.sized, self.within)) in
    MatchResult-from_err c.from_residual.result _ _ c.from_residual.ensures.0 (λ e. cut_heading (held self) c.args.text.now _ n _ _ all c.in_err-flush.ensures.written)

pub returns-in_err-write_all-clause-appended : goal.returns-in_err-write_all-clause-appended
returns-in_err-write_all-clause-appended g c =
    let self = c.args.self.now in
    let n = c.args.number in
    let all = held_heading self.bytes (mid_of self.count (4096 - self.count) self.bytes) c.put_heading.new.out _ self.count c.unwrap.result n c.put_heading.result c.unwrap.ensures c.put_heading.ensures.line (omega (arith, self.sized, self.within)) in
    MatchResult-from_err c.from_residual-in_err-write_all.result _ _ c.from_residual-in_err-write_all.ensures.0
    (λ e. cut_note (held self) c.args.text.now _ n _ _ _ all c.in_ok-flush.ensures.written c.in_err-write_all.ensures)

pub returns-clause-appended : goal.returns-clause-appended
returns-clause-appended g c =
    let self = c.args.self.now in
    let n = c.args.number in
    let all = held_heading self.bytes (mid_of self.count (4096 - self.count) self.bytes) c.put_heading.new.out _ self.count c.unwrap.result n c.put_heading.result c.unwrap.ensures c.put_heading.ensures.line (omega (arith, self.sized, self.within)) in
    let end = first_byte c.flush.new.self.bytes 10 (omega (arith, c.flush.new.self.sized)) in
    passed_note (held self) c.args.text.now _ _ n _ _ _ all c.in_ok-flush.ensures.written end c.in_ok-write_all.ensures
