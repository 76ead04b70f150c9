-- How a call ends, where its workers are honest, or each attempt is answered in full.
use Rattle.std.proofs.Common.{arith, ℕ, List, ◌≡◌, inl, inr, ◌+◌, ◌<◌, nat_lt, [], ◌∷◌, ◌++◌, sym, ap, ◌∙◌, subst, length, drop, Option, Some}
use Rattle.std.proofs.lemmas.Bool.{cases_Bool, ltb-true}
use Rattle.std.proofs.Math.Seq.{drop-append_seam}
use Rattle.job_text.specs.declared.reply.Reply.{Reply}
use Rattle.job_text.specs.Rule.{IsReplyFor}
use Rattle.work_core.specs.Searches.{Search}
use Rattle.workers_io.specs.History.{Happening, IsHonest, Tells}
use Rattle.poly_model.specs.declared.overflow.Overflow.{Overflow as Passed}
use Rattle.poly_model.specs.Overflows.{Passes}
use Rattle.coordinator_core.specs.declared.options.Options.{Options}
use Rattle.coordinator_core.specs.declared.action.Action.TheVariants.{Hand, Collect, Finish, GiveUp}
use Rattle.coordinator_core.specs.Machine.{AreOptions, State, hand_or_wait, keys_out, next_action, wait_or_finish, budget_of}
use Rattle.coordinator_laws.specs.Answered.{AreAnswered}
use Rattle.coordinator_laws.proofs.CourseLaws.{honest_overflows_pass}
use Rattle.coordinator_laws.proofs.AnsweredLemmas.{answered_lose_nothing}
use Rattle.coordinator_laws.proofs.AnsweredStarts.{answered-honest}
use Rattle.coordinator.specs.Calls.{state_after}
use Rattle.coordinator.specs.Following.{EndsBy}
use Rattle.coordinator.proofs.CallLemmas.{tells_join}
use Rattle.run_state.specs.Payloads.{IsLedgerText}
use Rattle.run_laws.specs.Laws.{AnsweredCallsGoOn, AnsweredOverflowsPass, OverflowsPass, TellsFullAnswers}
use Rattle.run_laws.proofs.HonestCalls.{of_call}
use Rattle.run_laws.proofs.RunLaws.{course_of, is_course}

-- ---- an overflow
-- what happened up to it, and it
abbrev happened : {s : State} {o : Passed} {old new : Option (List Happening)} {texts : List (List ℕ)} → EndsBy s o old new texts → List Happening
happened e = e.goes.happenings ++ e.happening ∷ []

passes_at_end : (options : Options) (s : Search) (replies : List Reply) (payloads texts : List (List ℕ)) (old new : Option (List Happening)) (o : Passed) → AreOptions options →
    IsLedgerText s replies payloads → (e : EndsBy (state_after options s replies) o old new texts) → (starts : List (ℕ × List ℕ)) → IsHonest IsReplyFor starts (happened e) →
    Passes s.polyhedron o
passes_at_end options s replies payloads texts old new o range text e starts honest =
    honest_overflows_pass (course_of options s replies e.last old e.before texts e.goes) payloads starts e.event e.happening o range
    (is_course options s replies e.last old e.before texts e.goes) text honest e.told_as e.ends

pub overflows_pass : OverflowsPass
overflows_pass options s replies payloads texts old new o h e =
    let honest = of_call old new (happened e) (tells_join old e.before new e.goes.happenings (e.happening ∷ []) e.goes.told e.told) h.honest in
    passes_at_end options s replies payloads texts old new o h.in_range h.legal.is_text e honest.0 honest.1

-- ---- what is told of full answers
same_rest : (before xs ys : List Happening) → before ++ xs ≡ before ++ ys → xs ≡ ys
same_rest before xs ys e = sym (drop-append_seam before xs) ∙ ap (drop (length before)) e ∙ drop-append_seam before ys

tells_these : (old new : Option (List Happening)) (hs : List Happening) → (f : TellsFullAnswers old new) → Tells old new hs → AreAnswered [] hs
tells_these old new hs f t =
    let t1 : Tells (Some f.before) new hs = subst (λ (o : Option (List Happening)). Tells o new hs) f.at_entry t in
    let t2 : Tells (Some f.before) (Some (f.before ++ f.happenings)) hs = subst (λ (o : Option (List Happening)). Tells (Some f.before) o hs) f.at_exit t1 in
    subst (AreAnswered []) (same_rest f.before f.happenings hs t2) f.answered

pub answered_overflows_pass : AnsweredOverflowsPass
answered_overflows_pass options s replies payloads texts old new o h e =
    let told = tells_join old e.before new e.goes.happenings (e.happening ∷ []) e.goes.told e.told in
    let answered = tells_these old new (happened e) h.answered told in
    passes_at_end options s replies payloads texts old new o h.in_range h.legal.is_text e [] (answered-honest [] [] (happened e) (λ a text q. q) answered)

-- ---- a call that is given up
waits : (s : State) (lost strays : ℕ) → wait_or_finish s ≡ GiveUp lost strays → ⊥
waits s lost strays e = elim (cases_Bool (nat_lt 0 (length (keys_out s.sent)))) [
  | inl y ↦ let never : Collect ≡ GiveUp lost strays = rw y at e in cc
  | inr n ↦ let never : Finish ≡ GiveUp lost strays = rw n at e in cc
]

not-up : (s : State) (queue : List (List ℕ)) (lost strays : ℕ) → hand_or_wait s queue ≡ GiveUp lost strays → ⊥
not-up s [] lost strays e = waits s lost strays e
not-up s (k ∷ ks) lost strays e = elim (cases_Bool (nat_lt (length (keys_out s.sent)) s.options.workers)) [
  | inl y ↦ let never : Hand (length s.sent + 1) k (budget_of s) ≡ GiveUp lost strays = rw y at e in cc
  | inr n ↦ waits s lost strays (rw n at e)
]

too-many : (s : State) (lost strays : ℕ) → next_action s ≡ GiveUp lost strays → s.options.lost < s.losses + s.strays
too-many s lost strays e = elim (cases_Bool (nat_lt s.options.lost (s.losses + s.strays))) [
  | inl y ↦ ltb-true s.options.lost (s.losses + s.strays) y
  | inr n ↦ absurd (not-up s s.queue lost strays (rw n at e))
]

pub answered_calls_go_on : AnsweredCallsGoOn
answered_calls_go_on options s replies payloads texts old new lost strays h g =
    let c = course_of options s replies g.last old new texts g.goes in
    let answered = tells_these old new g.goes.happenings h.answered g.goes.told in
    let none = answered_lose_nothing c payloads h.in_range (is_course options s replies g.last old new texts g.goes) h.legal answered in
    omega (arith, too-many g.last lost strays g.gives_up, none.losses, none.strays)
