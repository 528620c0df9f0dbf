-- Calls that stand in for others: the bits of a damaged word decide nothing.
use Rattle.swd_host.proofs.Words.{◌≡◌, ◌==◌, ◌&&◌, ◌+◌, ◌++◌, ◌∙◌, ◌∷◌, [], ℕ, true, false, List, Some, None}
use Rattle.swd_host.proofs.Words.{ap, refl, subst, sym, is_some, if◌then◌else◌, inl, inr, Engine, Access}
use Rattle.swd_host.proofs.Words.{data_phase_word, engine_job, engine_job_is_of}
use Rattle.std.proofs.lemmas.List.Recursion.{is_count_by}
use Rattle.std.specs.Prelude.{count_by}
use Rattle.swd_port.specs.declared.access.Answer.{Answer}
use Rattle.swd_port.specs.declared.access.Answer.TheVariants.{Value}
use Rattle.swd_port.specs.declared.access.Access.TheVariants.{Read, Write}
use Rattle.swd_port.specs.declared.call.Call.{Call}
use Rattle.swd_port.specs.declared.cue.Cue.{Cue}
use Rattle.swd_port.specs.declared.cue.Cue.TheVariants.{Lead, Ask, Take, Give, Pass}
use Rattle.swd_port.specs.declared.register.Register.{Register}
use Rattle.swd_port.specs.declared.register.Register.TheVariants.{CtrlStatRead}
use Rattle.swd_port.specs.Steps.{IsPortSeen, is_port_ask}
use Rattle.swd_host.specs.Calls.{EngineTurned}
use Rattle.swd_host.specs.Early.{DataKeepsResumedOpening}
use Rattle.swd_host.specs.Events.{EngineMeetsRead}
use Rattle.swd_host.specs.Replies.{EngineTookData, EngineTookReply}
use Rattle.swd_host.specs.Sent.{HostSent, HostSince, HostMakes, HostMayCue, IsHostDataPhase}
use Rattle.swd_host.specs.Sent.{host_asks_drw, host_asks_result, host_awaits_drw, host_idles, is_host_idle, host_okay}
use Rattle.swd_host.specs.Sent.{is_host_confirmation, host_since_after_call, host_since_refused, none, other, sends}
use Rattle.swd_host.specs.Sent.{confirms, flagged, written, value, fault}
use Rattle.swd_host.specs.StandIns.{IsHostStandIn, AreHostStandIns, same_call, same_damage}
use Rattle.swd_host.specs.StandIns.{EngineTurnsByStandIns, EngineTurnedByStandIn, HostReportsStandIns}
use Rattle.swd_host.specs.StandIns.{AreHostStandInsBothWays}
use Rattle.swd_host.specs.Steps.{EngineGoesTo, EngineRestsAtTar, engine_after_read, engine_tar_to, engine_word_decides}
use Rattle.swd_host.specs.Tracks.{EngineCallKeeps, EngineHasReadData}

-- THE ENGINE
-- it looks at the word of a data phase alone
took_by : (b c : ℕ) (e f : Engine) → data_phase_word b ≡ data_phase_word c → EngineTookData b e f → EngineTookData c e f
took_by b c e f same h = record {
  lands = h.lands;
  tracks = subst (λ o. EngineCallKeeps (EngineHasReadData o) e f) same h.tracks;
  early = subst (λ o. DataKeepsResumedOpening o e f) same h.early;
  meets = subst (λ o. EngineMeetsRead o e f) same h.meets;
  goes = subst (λ o. engine_job_is_of false (engine_job e.state) ≡ true
      → EngineGoesTo (engine_after_read (engine_job e.state) o e.task e.aims e.bursts) f.state) same h.goes;
  rests = h.rests;
  on = subst (λ o. is_some o ≡ true → engine_word_decides (engine_job e.state) ≡ false
      → f.state ≡ engine_after_read (engine_job e.state) o e.task e.aims e.bursts) same h.on;
  tar = subst (λ o. is_some o ≡ true → engine_word_decides (engine_job e.state) ≡ false
      → EngineRestsAtTar (engine_tar_to (engine_job e.state) e.task) f.state f.tar) same h.tar;
}

-- an engine that asked for a call, and took its reply, may have taken that of a stand-in
pub engine_turned_by_stand_in : EngineTurnedByStandIn
engine_turned_by_stand_in c d e f (same_call is) h = subst (λ (x : Call). EngineTurned x e f) (sym is) h
engine_turned_by_stand_in c d e f (same_damage first second from to) h = record {
  cue = h.cue ∙ ap Some (first ∙ sym second);
  seen = subst (λ q. IsPortSeen q d.seen) (sym second) to.range;
  replied = subst (λ q. EngineTookReply q d.seen e f) (sym second)
      (took_by c.seen d.seen e f (from.damaged ∙ sym to.damaged)
      (subst (λ q. EngineTookReply q c.seen e f) first h.replied));
}

-- call after call
pub engine_turns_by_stand_ins : EngineTurnsByStandIns
engine_turns_by_stand_ins e f [] [] are h = h
engine_turns_by_stand_ins e f [] (d ∷ others) are h = absurd are
engine_turns_by_stand_ins e f (c ∷ calls) [] are h = absurd are
engine_turns_by_stand_ins e f (c ∷ calls) (d ∷ others) are h = (
  h.0,
  engine_turns_by_stand_ins e h.0 calls others are.1 h.1,
  engine_turned_by_stand_in c d h.0 f are.0 h.2,
)

-- ONE CALL
stand_in_back : (c d : Call) → IsHostStandIn c d → IsHostStandIn d c
stand_in_back c d (same_call is) = same_call (sym is)
stand_in_back c d (same_damage first second from to) = same_damage second first to from

-- standing in is mutual
pub host_stand_ins_both_ways : AreHostStandInsBothWays
host_stand_ins_both_ways [] [] are = tt
host_stand_ins_both_ways [] (d ∷ others) are = absurd are
host_stand_ins_both_ways (c ∷ calls) [] are = absurd are
host_stand_ins_both_ways (c ∷ calls) (d ∷ others) are =
    (stand_in_back c d are.0, host_stand_ins_both_ways calls others are.1)

-- what is sent is the same
pub host_stand_in_cue : (c d : Call) → IsHostStandIn c d → d.cue ≡ c.cue
host_stand_in_cue c d (same_call is) = ap (λ (x : Call). x.cue) is
host_stand_in_cue c d (same_damage first second from to) = second ∙ sym first

-- a request, or a data phase with a word, is the same call
stand_in_asked : (c d : Call) → IsHostStandIn c d → is_port_ask c.cue ≡ true → d ≡ c
stand_in_asked c d (same_call is) asks = is
stand_in_asked c d (same_damage first second from to) asks =
    let no : is_port_ask Take ≡ true = subst (λ q. is_port_ask q ≡ true) first asks in
    absurd (cc)

stand_in_word : (c d : Call) (word : ℕ) → IsHostStandIn c d → data_phase_word c.seen ≡ Some word → d ≡ c
stand_in_word c d word (same_call is) has = is
stand_in_word c d word (same_damage first second from to) has =
    let no : Some word ≡ None = sym has ∙ from.damaged in
    absurd (cc)

stand_in_okay : (r : Register) (d : Call) → IsHostStandIn (host_okay r) d → d ≡ host_okay r
stand_in_okay r d stands = stand_in_asked (host_okay r) d stands refl

-- what is looked at of a call that is no request
stand_in_awaits : (c d : Call) → IsHostStandIn c d
    → (host_asks_drw d.cue && (d.seen == 1)) ≡ (host_asks_drw c.cue && (c.seen == 1))
stand_in_awaits c d (same_call is) = ap (λ (x : Call). host_asks_drw x.cue && (x.seen == 1)) is
stand_in_awaits c d (same_damage first second from to) =
    ap (λ q. host_asks_drw q && (d.seen == 1)) second ∙ sym (ap (λ q. host_asks_drw q && (c.seen == 1)) first)

stand_in_confirms : (c d : Call) → IsHostStandIn c d → is_host_confirmation d ≡ is_host_confirmation c
stand_in_confirms c d (same_call is) = ap is_host_confirmation is
stand_in_confirms c d (same_damage first second from to) =
    ap (λ q. host_asks_result q && (d.seen == 1)) second ∙ sym (ap (λ q. host_asks_result q && (c.seen == 1)) first)

stand_in_since : (c d : Call) (since : HostSince) → IsHostStandIn c d
    → host_since_after_call d since ≡ host_since_after_call c since
stand_in_since c d since (same_call is) = ap (λ (x : Call). host_since_after_call x since) is
stand_in_since c d since (same_damage first second from to) =
    ap (λ q. if is_port_ask q && (d.seen == 4) then host_since_refused since else since) second
    ∙ sym (ap (λ q. if is_port_ask q && (c.seen == 4) then host_since_refused since else since) first)

-- ALL CALLS
stand_ins_await : (calls others : List Call) → AreHostStandIns calls others
    → host_awaits_drw others ≡ host_awaits_drw calls
stand_ins_await [] [] are = refl
stand_ins_await [] (d ∷ others) are = absurd are
stand_ins_await (c ∷ calls) [] are = absurd are
stand_ins_await (c ∷ calls) (d ∷ others) are = stand_in_awaits c d are.0

stand_ins_idle : (calls others : List Call) → AreHostStandIns calls others → host_idles others ≡ host_idles calls
stand_ins_idle [] [] are = refl
stand_ins_idle [] (d ∷ others) are = absurd are
stand_ins_idle (c ∷ calls) [] are = absurd are
stand_ins_idle (c ∷ calls) (d ∷ others) are = ap is_host_idle (host_stand_in_cue c d are.0)

-- how many requests there are
abbrev asked_in : List Call → ℕ
asked_in [] = 0
asked_in (call ∷ calls) = if is_port_ask call.cue then 1 + asked_in calls else asked_in calls

asked_as : (calls others : List Call) → AreHostStandIns calls others → asked_in calls ≡ asked_in others
asked_as [] [] are = refl
asked_as [] (d ∷ others) are = absurd are
asked_as (c ∷ calls) [] are = absurd are
asked_as (c ∷ calls) (d ∷ others) are =
    ap (λ q. if is_port_ask q then 1 + asked_in calls else asked_in calls) (sym (host_stand_in_cue c d are.0))
    ∙ ap (λ n. if is_port_ask d.cue then 1 + n else n) (asked_as calls others are.1)

asked_count : (calls : List Call) → asked_in calls ≡ count_by (λ call. is_port_ask call.cue) calls
asked_count calls = is_count_by asked_in (λ call. is_port_ask call.cue) refl (λ call calls. refl) calls

stand_ins_count : (calls others : List Call) → AreHostStandIns calls others
    → count_by (λ call. is_port_ask call.cue) calls ≡ count_by (λ call. is_port_ask call.cue) others
stand_ins_count calls others are = sym (asked_count calls) ∙ asked_as calls others are ∙ asked_count others

data_phase_by : (a : Access) (asked call asked' call' : Call) → asked' ≡ asked → call'.cue ≡ call.cue
    → IsHostDataPhase a asked call → IsHostDataPhase a asked' call'
data_phase_by (Read at) asked call asked' call' same cue h = (same ∙ h.0, cue ∙ h.1)
data_phase_by (Write at word) asked call asked' call' same cue h = (same ∙ h.0, cue ∙ h.1)

data_phase_asks : (a : Access) (asked call : Call) → IsHostDataPhase a asked call → is_port_ask asked.cue ≡ true
data_phase_asks (Read at) asked call h = ap (λ (x : Call). is_port_ask x.cue) h.0
data_phase_asks (Write at word) asked call h = ap (λ (x : Call). is_port_ask x.cue) h.0

stand_in_refl : (c : Call) → IsHostStandIn c c
stand_in_refl c = same_call refl

sent_by : {list : List Access} {answers : List Answer} {sent sure : ℕ} {since : HostSince} {calls : List Call}
    → HostSent list answers sent sure since calls → (others : List Call) → AreHostStandIns calls others
    → HostSent list answers sent sure since others
sent_by none [] are = none
sent_by none (d ∷ others) are = absurd are
sent_by (other call waits confirmed h) [] are = absurd are
sent_by {list} (other {answers} {sent} {sure} {since} {calls} call waits confirmed h) (d ∷ others) are =
    subst (λ now. HostSent list answers sent sure now (d ∷ others)) (stand_in_since call d since are.0)
    (other d (stand_ins_await calls others are.1 ∙ waits)
    (λ e. confirmed (sym (stand_in_confirms call d are.0) ∙ e)) (sent_by h others are.1))
sent_by (sends a call asked low has phase h) [] are = absurd are
sent_by (sends a call asked low has phase h) (d ∷ []) are = absurd are.1
sent_by (sends a call asked low has phase h) (d ∷ before ∷ others) are =
    sends a d before low has
    (data_phase_by a asked call before d (stand_in_asked asked before are.1.0 (data_phase_asks a asked call phase))
    (host_stand_in_cue call d are.0) phase) (sent_by h (before ∷ others) are.1)
sent_by (confirms call waits confirmed h) [] are = absurd are
sent_by (confirms {answers} {sent} {calls} call waits confirmed h) (d ∷ others) are =
    confirms d (stand_ins_await calls others are.1 ∙ waits) (stand_in_confirms call d are.0 ∙ confirmed)
    (sent_by h others are.1)
sent_by (flagged call word has holds h) [] are = absurd are
sent_by (flagged call word has holds h) (d ∷ []) are = absurd are.1
sent_by {list} {answers} {sent} {sure} {since} (flagged call word has holds h) (d ∷ before ∷ others) are =
    let is = stand_in_word call d word are.0 has in
    let okay = stand_in_okay CtrlStatRead before are.1.0 in
    subst (λ (x : Call). HostSent list answers sent sure since (x ∷ before ∷ others)) (sym is)
    (subst (λ (x : Call). HostSent list answers sent sure since (call ∷ x ∷ others)) (sym okay)
    (flagged call word has holds
    (sent_by h (call ∷ host_okay CtrlStatRead ∷ others) (stand_in_refl call, (stand_in_refl _, are.1.1)))))
sent_by (written at word sent sure has h) others are = written at word sent sure has (sent_by h others are)
sent_by (value at word sent sure r call has gives takes is h) [] are = absurd are
sent_by (value at word sent sure r call has gives takes is h) (d ∷ []) are = absurd are.1
sent_by {list} {since} (value {answers} at word sent sure r call has gives takes is h) (d ∷ before ∷ others) are =
    let same = stand_in_word call d word are.0 is in
    let okay = stand_in_okay r before are.1.0 in
    subst (λ (x : Call). HostSent list (answers ++ Value word ∷ []) sent sure since (x ∷ before ∷ others)) (sym same)
    (subst (λ (x : Call). HostSent list (answers ++ Value word ∷ []) sent sure since (call ∷ x ∷ others)) (sym okay)
    (value at word sent sure r call has gives takes is
    (sent_by h (call ∷ host_okay r ∷ others) (stand_in_refl call, (stand_in_refl _, are.1.1)))))
sent_by (fault a sure has h) others are = fault a sure has (sent_by h others are)

-- THE CUES OF A HOST
none_by : (calls others : List Call) → AreHostStandIns calls others → calls ≡ [] → others ≡ []
none_by [] [] are is = refl
none_by [] (d ∷ others) are is = absurd are
none_by (c ∷ calls) others are is = absurd (cc)

-- the call before, where it is one to which OK was seen
pub record OkayBefore (r : Register) (others : List Call) : Type 0 where
  pub earlier : List Call
  pub is : others ≡ host_okay r ∷ earlier

okay_before : (r : Register) (earlier others : List Call) → AreHostStandIns (host_okay r ∷ earlier) others
    → OkayBefore r others
okay_before r earlier [] are = absurd are
okay_before r earlier (d ∷ others) are = record {
  earlier = others;
  is = ap (λ (x : Call). x ∷ others) (stand_in_okay r d are.0);
}

may_cue_by : (list : List Access) (calls others : List Call) → AreHostStandIns calls others → (cue : Cue)
    → HostMayCue list calls cue → HostMayCue list others cue
may_cue_by list calls others are (Lead ones undriven switch zeros) h = elim h [
  | inl first ↦ inl (none_by calls others are first.0, first.1)
  | inr last ↦ inr (stand_ins_idle calls others are ∙ last.0, last.1)
]
may_cue_by list calls others are (Ask q) h = (stand_ins_idle calls others are ∙ h.0, h.1)
may_cue_by list calls others are (Give bits) h =
    let before = okay_before h.register h.earlier others (subst (λ l. AreHostStandIns l others) h.asked are) in
    record {
      register = h.register;
      word = h.word;
      earlier = before.earlier;
      asked = before.is;
      is = h.is;
      sends = h.sends;
    }
may_cue_by list calls others are Take h = tt
may_cue_by list calls others are Pass h = tt

makes_by : (list : List Access) (calls others : List Call) → AreHostStandIns calls others → HostMakes list calls
    → HostMakes list others
makes_by list [] [] are h = h
makes_by list [] (d ∷ others) are h = absurd are
makes_by list (c ∷ calls) [] are h = absurd are
makes_by list (c ∷ calls) (d ∷ others) are h = (
  subst (HostMayCue list others) (sym (host_stand_in_cue c d are.0)) (may_cue_by list calls others are.1 c.cue h.0),
  makes_by list calls others are.1 h.1,
)

-- what a report says of calls, it says of their stand-ins
pub host_reports_stand_ins : HostReportsStandIns
host_reports_stand_ins list told calls others are h = record {
  requests = h.requests ∙ stand_ins_count calls others are;
  sent = h.sent;
  sure = h.sure;
  since = h.since;
  few = h.few;
  is = sent_by h.is others are;
  makes = makes_by list calls others are h.makes;
  idles = λ all. stand_ins_idle calls others are ∙ h.idles all;
}
