mod Cuts
mod Runs
mod Ends
mod FaultTexts
