use Rattle.std.proofs.Common.{◌≡◌, ◌∙◌, ◌<◌, ◌++◌, sym, ap, length, get_or}
use Rattle.std.specs.Option.{option_copied}
use Rattle.turn_book.specs.Book.{lines_text, stretches, book}
use Rattle.turn_book.proofs.StretchLemmas.{first_is, stretch_written}
use Rattle.turn_book.proofs.write_book.Goals as goal

pub loop-first-preserved : goal.loop-first-preserved
loop-first-preserved c =
    let first : (0 < length c.loop-first.rest.now) × (c.in-Some.first.now ≡ get_or c.loop-first.rest.now 0 0) = first_is c.loop-first.rest.now c.in-Some.first.now (ap option_copied (sym c.in-Some.is) ∙ c.first.ensures.value) in
    ap (λ rest. c.push_line.new.text.items ++ lines_text (stretches rest)) c.split_at.ensures.back
    ∙ stretch_written c.loop-first.rest.now c.in-Some.first.now c.stretch_len-count.result c.loop-first.text.items c.push_line.new.text.items (book c.args.t.now) first.0 first.1 c.stretch_len-count.ensures.value c.loop-first.invariant c.in_ok-push_line.ensures
