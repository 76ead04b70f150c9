-- Whom a call trusts: the history that trusted workers tell is honest.
use Rattle.std.proofs.Common.{ℕ, List, ◌≡◌, [], ◌∷◌, Option, Some, None, refl}
use Rattle.job_text.specs.Rule.{IsReplyFor}
use Rattle.workers_io.specs.declared.workers.Workers.{Ghosts as Workers}
use Rattle.workers_io.specs.History.{Happening, IsAllowed, IsHonest, StartedTexts, started, refused, replied, broken, last_text}
use Rattle.run_laws.specs.Laws.{TellsHonestly}
use Rattle.lrs_cli.specs.Ledgers.{AreTrusted, IsTold}

-- a reply that is allowed is one of its job
module _ (allows : List ℕ → List ℕ → Type 0) (allow : (text reply : List ℕ) → allows text reply → IsReplyFor text reply) where
  is_reply : (text : Option (List ℕ)) (bytes : List ℕ) → IsAllowed allows text bytes → IsAllowed IsReplyFor text bytes
  is_reply None bytes a = a
  is_reply (Some text) bytes a = (a.0, allow text a.0 a.1, a.2, a.3)

  are_replies : (starts : StartedTexts) (happenings : List Happening) → IsHonest allows starts happenings → IsHonest IsReplyFor starts happenings
  are_replies starts [] h = tt
  are_replies starts (started a text ∷ more) h = are_replies ((a, text) ∷ starts) more h
  are_replies starts (refused a text ∷ more) h = are_replies ((a, text) ∷ starts) more h
  are_replies starts (replied a bytes ∷ more) h = (is_reply (last_text a starts) bytes h.0, are_replies starts more h.1)
  are_replies starts (broken a ∷ more) h = are_replies starts more h

  told_honest : (told : Option (List Happening)) → IsTold told → ((happenings : List Happening) → told ≡ Some happenings → IsHonest allows [] happenings) → TellsHonestly told
  told_honest None t h = absurd t
  told_honest (Some happenings) t h = are_replies [] happenings (h happenings refl)

-- `law` is that of all workers: what honest ones tell is honest
pub tells_honestly : {W : Type 0} (workers : Workers W) →
    ((w : W) (happenings : List Happening) → workers.honest w → workers.history w ≡ Some happenings → IsHonest workers.allows [] happenings) →
    (before after : W) → (workers.honest before → workers.honest after) → AreTrusted workers before after → TellsHonestly (workers.history after)
tells_honestly workers law before after stay t =
    told_honest workers.allows t.allow (workers.history after) t.told (λ happenings e. law after happenings (stay t.honest) e)
