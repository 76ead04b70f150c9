-- The happenings of a call are honest where the told history is, whatever was started before.
use Rattle.std.proofs.Common.{List, [], ◌∷◌, ◌++◌, subst, Option, Some, None}
use Rattle.job_text.specs.Rule.{IsReplyFor}
use Rattle.workers_io.specs.History.{Happening, IsHonest, StartedTexts, Tells, started, refused, replied, broken}
use Rattle.run_laws.specs.Laws.{TellsHonestly}

-- behind others: after their starts
behind : (starts : StartedTexts) (before hs : List Happening) → IsHonest IsReplyFor starts (before ++ hs) → (more : StartedTexts) × IsHonest IsReplyFor more hs
behind starts [] hs h = (starts, h)
behind starts (started a text ∷ before) hs h = behind ((a, text) ∷ starts) before hs h
behind starts (refused a text ∷ before) hs h = behind ((a, text) ∷ starts) before hs h
behind starts (replied a bytes ∷ before) hs h = behind starts before hs h.1
behind starts (broken a ∷ before) hs h = behind starts before hs h

-- in front of others
front : (starts : StartedTexts) (hs more : List Happening) → IsHonest IsReplyFor starts (hs ++ more) → IsHonest IsReplyFor starts hs
front starts [] more h = tt
front starts (started a text ∷ hs) more h = front ((a, text) ∷ starts) hs more h
front starts (refused a text ∷ hs) more h = front ((a, text) ∷ starts) hs more h
front starts (replied a bytes ∷ hs) more h = (h.0, front starts hs more h.1)
front starts (broken a ∷ hs) more h = front starts hs more h

pub of_call : (old new : Option (List Happening)) (hs : List Happening) → Tells old new hs → TellsHonestly new → (starts : StartedTexts) × IsHonest IsReplyFor starts hs
of_call old None hs t h = absurd h
of_call None (Some all) hs t h = absurd t
of_call (Some before) (Some all) hs t h = behind [] before hs (subst (IsHonest IsReplyFor []) t h)

-- what was told before the last of them is honest too
pub of_earlier : (old new : Option (List Happening)) (hs : List Happening) → Tells old new hs → TellsHonestly new → TellsHonestly old
of_earlier old None hs t h = absurd h
of_earlier None (Some all) hs t h = absurd t
of_earlier (Some before) (Some all) hs t h = front [] before hs (subst (IsHonest IsReplyFor []) t h)
