use Rattle.std.proofs.Common.{◌≡◌, ◌∙◌, sym, ap, arith, option_map, false}
use Rattle.turn_book.specs.Cuts.{stretch_seen}
use Rattle.turn_book.specs.Reading.{last_is}
use Rattle.turn_book.proofs.LineLemmas.{Seen, seen, line_taken_at}
use Rattle.turn_book.proofs.lines.take_line.Goals as goal

pub returns-in_ok-resize-in-Some : goal.returns-in_ok-resize-in-Some
returns-in_ok-resize-in-Some c =
    let h : Seen c.args.line.now c.in-Some.stretch.thread c.in-Some.stretch.count = seen c.args.line.now c.in-Some.stretch (ap (option_map stretch_seen) (sym c.in-Some.is) ∙ c.stretch_of.ensures) in
    let other : last_is c.args.turns.now.items c.in-Some.stretch.thread ≡ false = ap (λ ts. last_is ts c.in-Some.stretch.thread) (sym c.as_slice.ensures.value) ∙ sym c.last_is.ensures ∙ c.if-last_is.false in
    line_taken_at c.args.turns.now.items c.resize.new.self.items c.args.line.now c.args.number c.in-Some.stretch.thread c.in-Some.stretch.count c.len.result _ h other c.requires (omega arith) (omega arith) (omega arith) c.in_ok-resize-in-Some.ensures.items
