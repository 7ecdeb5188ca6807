use Rattle.std.proofs.Common.{◌≡◌, ◌<◌, ◌+◌, ℕ, [], ◌∷◌, ◌++◌, true, arith, refl, ap, sym, ◌∙◌, subst}
use mathlib.Core.Option.{none}
use Rattle.atomic_table.specs.Table.{Me, step, Allows}
use Rattle.seat_host.specs.declared.law.View.{View}
use Rattle.seat_host.specs.Places.{Shared, shared}
use Rattle.seat_host.specs.Answers.{holding}
use Rattle.seat_host.specs.Law.{Keeps, Finishes}
use Rattle.seat_host.proofs.Moves.{finishes}
use Rattle.seat_host.proofs.Turning.{took_turn}
use Rattle.seat_host.proofs.seat_table.SeatTable.turn.Goals as goal

pub store-requires : goal.store-requires
store-requires g c =
    let t = c.args.self.now.table.shared in
    let m = c.wait_turn.new.pass.me in
    let e1 = c.in-Ok.ensures.drew.0 in
    let came = c.wait_turn.ensures.came in
    let e2 = came.3 in
    let alive : m.0.alive ≡ true = ap (λ (u : Me Shared View). u.0.alive) e2 ∙ ap (λ (u : Me Shared View). u.0.alive) e1 ∙ c.requires.idle.1 in
    let acts : m.0.acts ≡ true = ap (λ (u : Me Shared View). u.0.acts) e2 in
    let ticket : m.0.ticket ≡ c.in-Ok.ticket = ap (λ (u : Me Shared View). u.0.ticket) e2 ∙ ap (λ (u : Me Shared View). u.0.ticket) e1 in
    let st = step t.table_id.slots 1 (c.in-Ok.ticket + 1) 0 none in
    let book = c.act-answer.ensures.book in
    let y = shared m.0.code m.0.start (m.0.seen ++ holding c.args.thread c.act-answer.result ∷ []) in
    let own = c.act-answer.ensures.own ∙ c.wait_turn.ensures.own ∙ c.in-Ok.ensures.own ∙ c.requires.own in
    let P : Me Shared View → Type 0 = λ u. Allows (Keeps t.key) t.table_id.slots c.act-answer.new.pass.id u 1 (λ _. c.in-Ok.ticket + 1) (λ _. Finishes st u (c.in-Ok.ticket + 1)) in (
      own,
      omega (arith, c.args.self.now.counts.0),
      subst P (sym book) (finishes t.key t.table_id.slots c.act-answer.new.pass.id m.0 y (holding c.args.thread c.act-answer.result) (c.in-Ok.ticket + 1) st alive acts refl (ap (λ (n : ℕ). n + 1) (sym ticket))),
    )

pub returns-clause-turn : goal.returns-clause-turn
returns-clause-turn g c =
    took_turn c.args.pass.now.table_id c.store.new.seat.table_id c.args.pass.now.me c.draw.new.pass.me c.wait_turn.new.pass.me c.act-answer.new.pass.me c.store.new.seat.me c.in-Ok.ticket c.args.seen c.args.thread c.act-answer.result c.requires.seen
    c.in-Ok.ensures.drew c.wait_turn.ensures.came c.act-answer.ensures.comes c.act-answer.ensures.book c.store.ensures.2
