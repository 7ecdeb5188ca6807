use Rattle.std.proofs.Common.{◌≡◌, true, false, sym, ap, ap₂, ◌∙◌, arith}
use Rattle.std.specs.Prelude.{nat_lt}
use Rattle.std.proofs.lemmas.Bool.Decides.{nat_tests}
use Rattle.label_table.specs.Tables.{Table, pair_of}
use Rattle.label_table.proofs.TableLemmas.{looked_up, put_seen, room_seen, asked_known, asked_full, asked_new}
use Rattle.label_table.proofs.LabelTable.flows.Goals as goal

pub returns-in-Some-clause-asked : goal.returns-in-Some-clause-asked
returns-in-Some-clause-asked c =
    let pair = pair_of c.args.a c.args.b in
    let seen = looked_up c.self.inside.answers.entries c.args.self.now.answers (ap (λ (t : Table). t.answers) c.self.view_is) _ pair c.recalled.result (ap₂ pair_of c.a.view_is c.b.view_is) c.recalled.ensures in
    asked_known c.args.self.now pair c.in-Some.answer (sym seen ∙ c.in-Some.is)

pub returns-then-len-self-clause-asked : goal.returns-then-len-self-clause-asked
returns-then-len-self-clause-asked c =
    let pair = pair_of c.args.a c.args.b in
    let es = c.self.inside.answers.entries in
    let answers = ap (λ (t : Table). t.answers) c.self.view_is in
    let seen = looked_up es c.args.self.now.answers answers _ pair c.recalled.result (ap₂ pair_of c.a.view_is c.b.view_is) c.recalled.ensures in
    let less : nat_lt c.len.result c.self.inside.room ≡ true = grind (arith, nat_tests, c.if-len-self.true) in
    let room = sym (room_seen es c.args.self.now c.len.result c.self.inside.room c.self.invariant.unique answers (ap (λ (t : Table). t.room) c.self.view_is) c.len.ensures.len) ∙ less in
    put_seen c.self.inside.labels.keys es c.put_answer.new.answers.entries c.self.inside.room c.args.self.now _ pair c.flows_at-answer.result c.self.view_is (ap₂ pair_of c.a.view_is c.b.view_is) c.flows_at-answer.ensures c.put_answer.ensures.answers
    ∙ asked_new c.args.self.now pair (sym seen ∙ c.in_default.is) room

pub returns-else-len-self-clause-asked : goal.returns-else-len-self-clause-asked
returns-else-len-self-clause-asked c =
    let pair = pair_of c.args.a c.args.b in
    let es = c.self.inside.answers.entries in
    let answers = ap (λ (t : Table). t.answers) c.self.view_is in
    let seen = looked_up es c.args.self.now.answers answers _ pair c.recalled.result (ap₂ pair_of c.a.view_is c.b.view_is) c.recalled.ensures in
    let full : nat_lt c.len.result c.self.inside.room ≡ false = grind (arith, nat_tests, c.if-len-self.false) in
    let room = sym (room_seen es c.args.self.now c.len.result c.self.inside.room c.self.invariant.unique answers (ap (λ (t : Table). t.room) c.self.view_is) c.len.ensures.len) ∙ full in
    asked_full c.args.self.now pair (sym seen ∙ c.in_default.is) room
