use Rattle.std.proofs.Common.{◌≡◌, ◌∙◌, ◌∷◌, sym, chars}
use Rattle.lam_lexer.specs.Characters.{run, past, continues_name}
use Rattle.lam_lexer.proofs.Runs.{name_parts, run_left, char_goes_on, none_goes_on}
use Rattle.lam_lexer.proofs.lexer.name_run.Goals as goal
use Rattle.lam_lexer.proofs.lexer.name_run.Goals.{in-Some+then-not-continues_name, in_default}

pub before-requires : goal.before-requires
before-requires c =
    let q : chars c.loop-c.rest.now ≡ past continues_name (chars c.args.after.now) = elim c.match-split_first.branch [
      | in-Some+then-not-continues_name w ↦ run_left continues_name (chars c.args.after.now) (chars c.loop-c.rest.now) (char_goes_on continues_name w.in-Some.c w.in-Some.ensures.cases ∙ sym w.continues_name.ensures ∙ w.if-not-continues_name.true) c.loop-c.invariant.left
      | in_default w ↦ run_left continues_name (chars c.args.after.now) (chars c.loop-c.rest.now) (none_goes_on continues_name w.in_default.ensures.cases) c.loop-c.invariant.left
    ] in
    record {
      front = c.args.first ∷ run continues_name (chars c.args.after.now);
      parts = name_parts continues_name c.args.first c.requires q;
    }

pub returns-clause-bytes : goal.returns-clause-bytes
returns-clause-bytes c =
    let q : chars c.loop-c.rest.now ≡ past continues_name (chars c.args.after.now) = elim c.match-split_first.branch [
      | in-Some+then-not-continues_name w ↦ run_left continues_name (chars c.args.after.now) (chars c.loop-c.rest.now) (char_goes_on continues_name w.in-Some.c w.in-Some.ensures.cases ∙ sym w.continues_name.ensures ∙ w.if-not-continues_name.true) c.loop-c.invariant.left
      | in_default w ↦ run_left continues_name (chars c.args.after.now) (chars c.loop-c.rest.now) (none_goes_on continues_name w.in_default.ensures.cases) c.loop-c.invariant.left
    ] in
    c.before-2.ensures (c.args.first ∷ run continues_name (chars c.args.after.now)) (name_parts continues_name c.args.first c.requires q)
