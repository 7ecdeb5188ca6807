-- What an observer can tell of a closed run, besides what is released past it: nothing that it does not see. The order of the
-- turns that it sees is no premise here.
use Rattle.std.specs.Prelude.{◌≡◌, ℕ, ◌≤◌, true, List, length, take}
use Rattle.flow_labels.specs.declared.Label.{Label}
use Rattle.lam_bytecode.specs.Codes.{CodeTree}
use Rattle.lam_machine_terms.specs.Worlds.{World}
use Rattle.lam_machine_terms.specs.Turns.{moments}
use Rattle.lam_machine_terms.specs.Views.{Agree, Item, agenda}
use Rattle.lam_machine_laws.specs.Isolation.{AreWellLabelled, LookSame}
use Rattle.audit_log.specs.Log.{view_lines}
use Rattle.closed_terms.specs.declared.End.{End}
use Rattle.closed_terms.specs.Schedule.{first_slot, OthersOpen, IsClosed}
use Rattle.closed_terms.specs.Items.{SameReleases, AllReleasesSame, ReleasesSameTo, FollowReleases}
use Rattle.closed_terms.specs.Ends.{is_public_end, IsEnded, IsFront}
use Rattle.closed_laws.specs.Ended.{EndSame}

-- The observer cannot tell another start apart from this one, and nobody but thread 0 is inside in it. Of it no more is taken
-- than that its first contexts are public and that its contexts list monitors of their own label, as in each valid one.
pub record IsLike (b o : Label) (start s : World) : Type 0 where
  pub labelled : AreWellLabelled s
  pub others : OthersOpen b s 0
  pub agree : Agree o start s

-- the agenda of turns
abbrev pub noted_of : CodeTree → Label → World → List ℕ → List Item
noted_of code o start turns = agenda o (moments code turns start)

-- the observer is shown the same of two closed runs, line by line, and they ended in the same way
pub record ShownSame (code : CodeTree) (o : Label) (start s : World) (turns others : List ℕ) (e e' : End) : Type 0 where
  pub looks : EndSame o start s (moments code turns start) (moments code others s) e e'
  pub lines : view_lines start.names o (moments code turns start) ≡ view_lines s.names o (moments code others s)

-- These turns are a closed run that ended so. What the observer can tell of it by any other closed run of the code, from a start
-- that it cannot tell apart.
pub record TellsNoMore (code : CodeTree) (b o : Label) (n : ℕ) (start : World) (turns : List ℕ) (e : End) : Type 0 where
  -- as far as both agendas go and the releases past the observer agree, the agendas are equal, and both look the same
  pub order :
      (s : World) (others : List ℕ) (k : ℕ) → IsLike b o start s → IsClosed b code others s first_slot →
      k ≤ length (noted_of code o start turns) → k ≤ length (noted_of code o s others) →
      SameReleases k (noted_of code o start turns) (noted_of code o s others) →
      (take k (noted_of code o start turns) ≡ take k (noted_of code o s others))
      × LookSame k o start (moments code turns start) s (moments code others s)
  -- where both ended publicly and the releases agree, both show the same, and ended in the same way
  pub ends :
      (s : World) (others : List ℕ) (e' : End) → IsLike b o start s → IsEnded b code n e' others s →
      is_public_end e ≡ true → is_public_end e' ≡ true → AllReleasesSame (noted_of code o start turns) (noted_of code o s others) →
      ShownSame code o start s turns others e e'
  -- where only this one did, and no release stands behind its end in the other, the other shows a front of it
  pub last :
      (s : World) (others : List ℕ) → IsLike b o start s → IsFront b code n others s →
      is_public_end e ≡ true → ReleasesSameTo (noted_of code o start turns) (noted_of code o s others) →
      take (length (noted_of code o s others)) (noted_of code o start turns) ≡ noted_of code o s others
  -- where only the other did, and no release stands behind its end in this one, this one shows a front of it
  pub first :
      (s : World) (others : List ℕ) (e' : End) → IsLike b o start s → IsEnded b code n e' others s →
      is_public_end e' ≡ true → ReleasesSameTo (noted_of code o s others) (noted_of code o start turns) →
      take (length (noted_of code o start turns)) (noted_of code o s others) ≡ noted_of code o start turns
  -- a release past the observer is of the thread of the entry before it, and the first of thread 0
  pub follow : FollowReleases 0 (noted_of code o start turns)
