-- Channels are those that attributes tell.
use Rattle.std.proofs.Common.{◌≡◌, ℕ, ◌/◌, ◌<◌, ◌≤◌, List, ◌++◌, length, drop, Option, None, Some, IfSome, ap, arith}
use Rattle.chan_flags.specs.declared.record.Chan.{Chan}
use Rattle.chan_flags.specs.declared.record.Fit.{Fit}
use Rattle.dfs_states.specs.declared.dfs.Dfs.{Dfs}
use Rattle.dfs_states.specs.declared.dfs.Dfs.TheVariants.{Usable, Unavailable, Available}
use Rattle.nl_attrs.specs.declared.attr.Attr.{Attr}
use Rattle.nl80211_replies.specs.Dumps.{channel_attrs, dfs_attrs, fit_attrs}
use Rattle.reply_reading.specs.Typed.{IsTypedDfs, IsTypedFit}
use Rattle.reply_reading.specs.inner.Reading.{IsToldChannel, Undoes, payload_at}
use Rattle.reply_reading.specs.inner.Values.{khz_of}
use Rattle.reply_reading.proofs.AnswersAgain.{Numbers32}
use Rattle.reply_reading.proofs.Numbered.{khz_is}

pub dfs_few : (dfs : Dfs) → length (dfs_attrs dfs) ≤ 2
dfs_few Usable = omega arith
dfs_few (Unavailable until) = omega arith
dfs_few (Available since) = omega arith

-- behind the first two attributes: what the rules allow, and what is known of radar
fitted : (fit : Option Fit) (dfs : Dfs) (attrs : List Attr) (found : Fit) (state : Dfs) → IfSome fit IsTypedFit → IsTypedDfs dfs → attrs ≡ fit_attrs fit ++ dfs_attrs dfs → 2 < length attrs
    → ((f : Fit) (more : List Attr) → IsTypedFit f → attrs ≡ fit_attrs (Some f) ++ more → found ≡ f) → Undoes IsTypedDfs dfs_attrs (drop 4 attrs) state
    → (Some found ≡ fit) × (state ≡ dfs)
fitted None dfs attrs found state typed known e many fits knows = absurd (omega (arith, many, ap length e, dfs_few dfs))
fitted (Some fit) dfs attrs found state typed known e many fits knows = (ap Some (fits fit (dfs_attrs dfs) typed e), knows dfs known (ap (drop 4) e))

pub channel_again : (r n : ℕ) (shown : Chan × Dfs) (attrs : List Attr) (found : Fit) (state : Dfs) → IsToldChannel shown → attrs ≡ channel_attrs r shown → 2 < length (drop 2 attrs) → Numbers32 attrs 1 n
    → ((f : Fit) (more : List Attr) → IsTypedFit f → drop 2 attrs ≡ fit_attrs (Some f) ++ more → found ≡ f) → Undoes IsTypedDfs dfs_attrs (drop 4 (drop 2 attrs)) state
    → (record { khz = khz_of n; fit = Some found }, state) ≡ shown
channel_again r n (chan, dfs) attrs found state is e many number fits knows =
    let typed = is.0 in
    let lt = typed.0 in
    let parts = fitted chan.fit dfs (drop 2 attrs) found state typed.1 typed.2 (ap (drop 2) e) many fits knows in
    let khz : khz_of n ≡ chan.khz = khz_is n chan.khz lt is.1 (number (chan.khz / 1000) (omega arith) (ap (payload_at 1) e)) in
    let fit = parts.0 in let known = parts.1 in
    λ i. (record { khz = khz i; fit = fit i }, known i)
