-- What becomes of a command that was taken out
use Rattle.std.proofs.Common.{◌≡◌, ℕ, Bool, true, false, List, inl, inr, refl, ap, ◌∙◌}
use Rattle.std.specs.Bool.{OnTrue, OnFalse}
use Rattle.rambo_names.specs.declared.refusal.Refusal.TheVariants.{OutOfMemory}
use Rattle.rambo_resp.specs.declared.reply.Reply.{Reply}
use Rattle.rambo_commands.specs.Administration.{Asks}
use Rattle.rambo_commands.specs.declared.request.Request.TheVariants.{Says}
use Rattle.rambo_commands.specs.declared.server_request.ServerRequest.TheVariants.{Common, Use, Shutdown}
use Rattle.rambo_connection.specs.declared.next.Next.{Next}
use Rattle.rambo_connection.specs.declared.next.Next.TheVariants as next
use Rattle.rambo_connection.specs.Connections.{ConnectionState, replied, owing, no_memory, Using}
use Rattle.rambo_connection.specs.Events.{EndingAll, TakesOn}

module _ (command : List (List ℕ)) (c d : ConnectionState) (goes_on : c.ended ≡ false) where
  -- there was no memory
  pub refused : d ≡ owing OutOfMemory c → TakesOn command next.Replied c d
  refused is = ((no_memory, inr (refl, is)), ap (λ (x : ConnectionState). x.ended) is ∙ goes_on)

  pub said : (r : Reply) (told : Bool) → Asks command (Common (Says r)) → OnTrue told (d ≡ replied r c) → OnFalse told (d ≡ owing OutOfMemory c) → TakesOn command next.Replied c d
  said r true asks is not_so = ((r, inl (Common (Says r), asks, refl, is)), ap (λ (x : ConnectionState). x.ended) is ∙ goes_on)
  said r false asks not_so is = refused is

  pub used : (node : ℕ) → Asks command (Use node) → Using node c d → TakesOn command next.Replied c d
  used node asks (inl is) = ((_, inl (Use node, asks, refl, is)), ap (λ (x : ConnectionState). x.ended) is ∙ goes_on)
  used node asks (inr is) = refused is

  pub ended : (n : Next) → Asks command Shutdown → EndingAll n c d → TakesOn command n c d
  ended (next.Asks asked) asks is = absurd is
  ended next.Replied asks is = refused is
  ended next.Waits asks is = is
  ended next.Ends asks is = is
  ended next.EndsAll asks is = (asks, inl (Shutdown, asks, refl, is), ap (λ (x : ConnectionState). x.ended) is)
