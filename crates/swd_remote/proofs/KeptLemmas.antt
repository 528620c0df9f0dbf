-- Laws of a line from its beginning to its end.
use Rattle.std.proofs.Common.{◌≡◌, ℕ, true, List, [], ◌∷◌, ◌++◌, Option, Some, None, Result, Ok, Err, refl, sym}
use Rattle.std.proofs.Common.{ap, ◌∙◌, subst}
use Rattle.std.specs.Io.KnownBytes.{Appends, Consumes}
use Rattle.swd_port.specs.declared.outside.Disconnected.{Disconnected}
use Rattle.swd_port.specs.Transports.{PortAttempt, port_attempt}
use Rattle.swd_port.specs.declared.cue.Cue.{Cue}
use Rattle.swd_remote.specs.declared.kept.RemoteStreams.{RemoteStreams}
use Rattle.swd_remote.specs.declared.remote.Fault.{Fault}
use Rattle.swd_remote.specs.declared.remote.Remote.{Remote}
use Rattle.swd_remote.specs.declared.probe_transport.ProbeTransport.{ProbeTransport}
use Rattle.swd_remote.specs.Remotes.{RemoteQuitsAt}
use Rattle.swd_remote.specs.Runs.{IsRemoteCallMade, AreRemoteCallsMade, remote_characters_of, remote_all_levels}
use Rattle.swd_remote.specs.declared.line.LineTransport.{LineTransport}
use Rattle.swd_remote.specs.declared.line.LineTransport.TheVariants.{Server, Probe}
use Rattle.swd_remote.specs.declared.line.Way.{Way}
use Rattle.swd_remote.specs.declared.line.Way.TheVariants.{Characters, Packets}
use Rattle.swd_remote.specs.Kept.{IsFreshRemote, AreRemoteCallsSent, RemoteWentWell, RemoteHangsUp}
use Rattle.swd_remote.specs.Kept.{AreLineCallsSent, LinePerforms}
use Rattle.swd_remote.specs.Probes.{HasProbeExchanged, AreProbeCallsMade}
use Rattle.swd_dap.specs.declared.reports.Reports.{Reports}
use Rattle.swd_dap.specs.declared.transport.DapTransport.{DapTransport}
use Rattle.swd_dap.specs.Calls.{DapCallsAt}
use Rattle.swd_dap.proofs.CallLemmas.{dap_call_more, dap_announce_after}
use Rattle.swd_remote.proofs.RunLemmas.{remote_fault_not_none, remote_runs_exactly, remote_quits_exactly}

made_more : {R W : Type 0} (remaining : R → Option (List ℕ)) (contents : W → Option (List ℕ)) (calls : List PortAttempt)
    (call : PortAttempt) (s m t : Remote R W) → AreRemoteCallsMade remaining contents calls s m
    → IsRemoteCallMade remaining contents call m t → AreRemoteCallsMade remaining contents (calls ++ call ∷ []) s t
made_more remaining contents [] call s m t h one =
    (t, subst (λ r. IsRemoteCallMade remaining contents call r t) h one, refl)
made_more remaining contents (first ∷ calls) call s m t h one =
    (h.0, h.1, made_more remaining contents calls call h.0 m t h.2 one)

-- one call more
pub remote_calls_one_more : {R W : Type 0} (remaining : R → Option (List ℕ)) (contents : W → Option (List ℕ))
    (sent left : Option (List ℕ)) (calls : List PortAttempt) (call : PortAttempt) (s t : ProbeTransport (Remote R W))
    → IsRemoteCallMade remaining contents call s.probe t.probe
    → AreRemoteCallsSent remaining contents sent left calls s
    → AreRemoteCallsSent remaining contents sent left (calls ++ call ∷ []) t
remote_calls_one_more remaining contents sent left calls call s t one h = record {
  start = h.start;
  fresh = h.fresh;
  made = made_more remaining contents calls call h.start s.probe t.probe h.made one;
}

-- the same over packets
probe_calls_one_more : {R W : Type 0} (speed : ℕ) (calls : List PortAttempt) (cue : Cue) (told : Result ℕ Disconnected)
    (s t : DapTransport (Reports R W)) → DapCallsAt s.fault told HasProbeExchanged cue s t
    → AreProbeCallsMade speed calls s → AreProbeCallsMade speed (calls ++ port_attempt cue told ∷ []) t
probe_calls_one_more speed calls cue told s t one h = record {
  made = record {
    start = h.made.start;
    fresh = h.made.fresh;
    made = dap_call_more HasProbeExchanged calls (port_attempt cue told) h.made.start s t h.made.made one;
  };
  rate = h.rate;
}

-- what is announced is no call
pub probe_calls_announced : {R W : Type 0} (speed : ℕ) (calls : List PortAttempt)
    (s t : DapTransport (Reports R W)) → t ≡ record s { plan = t.plan } → AreProbeCallsMade speed calls s
    → AreProbeCallsMade speed calls t
probe_calls_announced speed calls s t e h = record {
  made = record {
    start = h.made.start;
    fresh = h.made.fresh;
    made = dap_announce_after HasProbeExchanged calls h.made.start s t h.made.made e;
  };
  rate = h.rate;
}

-- the same over a line
pub line_calls_announced : {R W : Type 0} (remaining : R → Option (List ℕ)) (contents : W → Option (List ℕ)) (way : Way)
    (sent left : Option (List ℕ)) (calls : List PortAttempt) (s t : DapTransport (Reports R W))
    → t ≡ record s { plan = t.plan } → AreLineCallsSent way remaining contents sent left calls (Probe s)
    → AreLineCallsSent way remaining contents sent left calls (Probe t)
line_calls_announced remaining contents Characters sent left calls s t e h = absurd h
line_calls_announced remaining contents (Packets speed framed) sent left calls s t e h =
    probe_calls_announced speed calls s t e h

-- one call more over a line
pub line_calls_one_more : {R W : Type 0} (remaining : R → Option (List ℕ)) (contents : W → Option (List ℕ)) (way : Way)
    (sent left : Option (List ℕ)) (calls : List PortAttempt) (cue : Cue) (told : Result ℕ Disconnected)
    (s t : LineTransport R W) → LinePerforms remaining contents cue told s t
    → AreLineCallsSent way remaining contents sent left calls s
    → AreLineCallsSent way remaining contents sent left (calls ++ port_attempt cue told ∷ []) t
line_calls_one_more remaining contents Characters sent left calls cue told (Server s) (Server t) one h =
    remote_calls_one_more remaining contents sent left calls (port_attempt cue told) s t one h
line_calls_one_more remaining contents Characters sent left calls cue told (Server s) (Probe t) one h = absurd one
line_calls_one_more remaining contents Characters sent left calls cue told (Probe s) t one h = absurd h
line_calls_one_more remaining contents (Packets speed framed) sent left calls cue told (Server s) t one h = absurd h
line_calls_one_more remaining contents (Packets speed framed) sent left calls cue told (Probe s) (Server t) one h =
    absurd one
line_calls_one_more remaining contents (Packets speed framed) sent left calls cue told (Probe s) (Probe t) one h =
    probe_calls_one_more speed calls cue told s t one h

-- a line from a beginning that contracts know
pub line_begins_at : {R W : Type 0} (remaining : R → Option (List ℕ)) (contents : W → Option (List ℕ)) (way known : Way)
    (sent held left had : Option (List ℕ)) (t : LineTransport R W) → way ≡ known → sent ≡ held → left ≡ had
    → AreLineCallsSent way remaining contents sent left [] t → AreLineCallsSent known remaining contents held had [] t
line_begins_at remaining contents way known sent held left had t same_way same_sent same_left h =
    subst (λ w. AreLineCallsSent w remaining contents held had [] t) same_way
    (subst (λ o. AreLineCallsSent way remaining contents o had [] t) same_sent
    (subst (λ o. AreLineCallsSent way remaining contents sent o [] t) same_left h))

-- where it is well at the end, it was so before, and Q went out
quit_well : {R W : Type 0} (contents : W → Option (List ℕ)) (o : Option Fault) (done : Result (Unit {0}) Disconnected)
    (s t : Remote R W)
    → s.fault ≡ o → RemoteQuitsAt o contents done s t → t.fault ≡ None → RemoteQuitsAt o contents (Ok tt) s t
quit_well {R} {W} contents (Some f) done s t e q w =
    absurd (remote_fault_not_none (sym (ap (λ (r : Remote R W). r.fault) q.1 ∙ e) ∙ w))
quit_well contents None (Ok u) s t e q w = q
quit_well contents None (Err gone) s t e q w = absurd (remote_fault_not_none (sym q.1 ∙ w))

went_well : {R W : Type 0} (remaining : R → Option (List ℕ)) (contents : W → Option (List ℕ))
    (sent left : Option (List ℕ)) (line : RemoteStreams R W) (calls : List PortAttempt) (start last end : Remote R W)
    (done : Result (Unit {0}) Disconnected)
    → IsFreshRemote remaining contents sent left start → AreRemoteCallsMade remaining contents calls start last
    → RemoteQuitsAt last.fault contents done last end → line.reader ≡ end.reader → line.writer ≡ end.outgoing.writer
    → end.fault ≡ None → RemoteWentWell remaining contents sent left calls line
went_well remaining contents sent left line calls start last end done fresh made q r w well =
    let q' = quit_well contents last.fault done last end refl q well in
    let all = remote_quits_exactly remaining contents calls sent (79 ∷ []) start last end tt made fresh.well fresh.asked
    fresh.writer q' in
    let drove = subst (λ d. Appends sent (contents end.outgoing.writer) (79 ∷ remote_characters_of d calls ++ 81 ∷ []))
    fresh.drives all.0 in
    record {
      out = subst (λ x. Appends sent (contents x) (79 ∷ remote_characters_of true calls ++ 81 ∷ [])) (sym w) drove;
      reads = subst (λ x. Consumes x (remaining line.reader) (remote_all_levels calls)) fresh.reader
          (subst (λ x. Consumes (remaining start.reader) (remaining x) (remote_all_levels calls)) (sym r) all.1);
    }

-- the end of a line, once the host said that it is done
pub remote_hung_up : {R W : Type 0} (remaining : R → Option (List ℕ)) (contents : W → Option (List ℕ))
    (sent left : Option (List ℕ)) (calls : List PortAttempt) (line : RemoteStreams R W)
    (last : ProbeTransport (Remote R W)) (first end : Remote R W) (done : Result (Unit {0}) Disconnected)
    → AreRemoteCallsSent remaining contents sent left calls last → first ≡ last.probe
    → RemoteQuitsAt first.fault contents done first end
    → line.reader ≡ end.reader → line.writer ≡ end.outgoing.writer → line.fault ≡ end.fault
    → line.in_doubt ≡ 0 → RemoteHangsUp remaining contents sent left calls line
remote_hung_up {R} {W} remaining contents sent left calls line last first end done h e q r w f none =
    let q' = subst (λ (p : Remote R W). RemoteQuitsAt p.fault contents done p end) e q in
    record {
      start = h.start;
      fresh = h.fresh;
      last = last.probe;
      made = h.made;
      exact = remote_runs_exactly remaining contents calls h.start last.probe h.made h.fresh.well h.fresh.asked;
      done = done;
      end = end;
      quits = q';
      reader = r;
      writer = w;
      fault = f;
      in_doubt = none;
      well = λ well. went_well remaining contents sent left line calls h.start last.probe end done h.fresh h.made q' r
          w (sym f ∙ well);
    }
