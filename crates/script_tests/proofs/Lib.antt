mod Honest
